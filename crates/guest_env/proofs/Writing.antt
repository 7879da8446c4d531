-- Bytes that a sink takes piece by piece.
use Rattle.std.proofs.Common.{◌≡◌, ℕ, ◌+◌, ◌-◌, ◌%◌, ◌^◌, ◌<◌, ◌≤◌, ◌⊎◌, inl, inr, Bool, true, false, List, [], ◌∷◌, ◌++◌, length, take, Option, Some, None, refl, ◌∙◌, ne_eqb, arith}
use Rattle.std.specs.Prelude.{is_none, nat_eq, if◌then◌else◌}
use Rattle.std.specs.Io.KnownBytes.{Appends}
use Rattle.std.proofs.KnownBytes.{Appends-nil, Appends-trans}
use Rattle.std.proofs.lemmas.Bool.Decides.{nat_tests}
use Rattle.cape_io.specs.Devices.{AppendsPrefix}
use Rattle.cape_io.specs.declared.devices.Sink.{Ghosts}
use Rattle.cape_io.proofs.Writing.{prefix-more, prefix-first}
use Rattle.guest_mem.specs.Pages.{Pages, place_of, page_size}
use Rattle.guest_mem.specs.Ranges.{range_bytes}
use Rattle.guest_mem.proofs.Ranges.{length-range_bytes}
use Rattle.guest_env.specs.Pieces.{pieces_of}
use Rattle.rvv_meaning.specs.Calls.{is_output}
use Rattle.guest_env.specs.Outputs.{bytes_out, bytes_err, IsWritten}
use Rattle.guest_env.proofs.Pieces.{pieces_of-none, first-piece-range, range-parts}

pub is-none : (o : Option ℕ) → is_none o ≡ true → o ≡ None
is-none None is = refl
is-none (Some a) is = cc

nonempty : {A : Type 0} (piece rest : List ℕ) → 0 < length piece → piece ++ rest ≡ [] → A
nonempty [] rest some is = absurd (omega arith)
nonempty (x ∷ xs) rest some is = cc

has-bytes : (pages : Pages) (a len : ℕ) → 0 < len → 0 < length (range_bytes pages a len)
has-bytes pages a len some = rw (length-range_bytes pages a len) some

module _ {K : Type 0} (k : Ghosts K) where
  -- a sink that takes no byte
  pub written-none : (a : ℕ) (went : Bool) (s : K) → IsWritten k a [] went s s
  written-none a true s =
      record { pieces = rw (pieces_of-none a) refl; gained = Appends-nil (k.held s); counts = refl; stays = λ none. refl }
  written-none a false s =
      record { pieces = rw (pieces_of-none a) refl; gained = (0, omega arith, Appends-nil (k.held s)); counts = tt; stays = λ none. refl }

  -- a piece that was put, and what follows
  written-more : (a a' : ℕ) (piece rest : List ℕ) (went : Bool) (old mid new : K) → pieces_of a (piece ++ rest) ≡ piece ∷ pieces_of a' rest → 0 < length piece
      → k.put_gives old piece true mid → Appends (k.held old) (k.held mid) piece → k.faults mid ≡ k.faults old → IsWritten k a' rest went mid new → IsWritten k a (piece ++ rest) went old new
  written-more a a' piece rest true old mid new parts some gives gained quiet later =
      record {
        pieces = rw parts (mid, gives, later.pieces);
        gained = Appends-trans _ _ _ piece rest gained later.gained;
        counts = later.counts ∙ quiet;
        stays = nonempty piece rest some;
      }
  written-more a a' piece rest false old mid new parts some gives gained quiet later =
      record {
        pieces = rw parts (inr (mid, gives, later.pieces));
        gained = prefix-more _ _ _ piece rest gained later.gained;
        counts = tt;
        stays = nonempty piece rest some;
      }

  -- a piece that failed
  written-failed : (a a' : ℕ) (piece rest : List ℕ) (old new : K) → pieces_of a (piece ++ rest) ≡ piece ∷ pieces_of a' rest → 0 < length piece
      → k.put_gives old piece false new → AppendsPrefix (k.held old) (k.held new) piece → IsWritten k a (piece ++ rest) false old new
  written-failed a a' piece rest old new parts some gives gained =
      record {
        pieces = rw parts (inl gives);
        gained = prefix-first _ _ piece rest gained;
        counts = tt;
        stays = nonempty piece rest some;
      }

  module _ (pages : Pages) (a count len : ℕ) (fits : a < 2 ^ 32) (some : 0 < len) (shorter : len ≤ count) (inside : place_of a + len ≤ page_size) (ends : len < count → place_of a + len ≡ page_size) where
    -- the same of the part of a range that lies in the page of its start
    pub range-more : (went : Bool) (old mid new : K) → k.put_gives old (range_bytes pages a len) true mid → Appends (k.held old) (k.held mid) (range_bytes pages a len) → k.faults mid ≡ k.faults old
        → IsWritten k ((a + len) % 2 ^ 32) (range_bytes pages ((a + len) % 2 ^ 32) (count - len)) went mid new → IsWritten k a (range_bytes pages a count) went old new
    range-more went old mid new gives gained quiet later =
        rw (range-parts pages a count len fits shorter)
        (written-more a ((a + len) % 2 ^ 32) (range_bytes pages a len) (range_bytes pages ((a + len) % 2 ^ 32) (count - len)) went old mid new
        (first-piece-range pages a count len fits some shorter inside ends) (has-bytes pages a len some) gives gained quiet later)

    pub range-failed : (old new : K) → k.put_gives old (range_bytes pages a len) false new → AppendsPrefix (k.held old) (k.held new) (range_bytes pages a len) → IsWritten k a (range_bytes pages a count) false old new
    range-failed old new gives gained =
        rw (range-parts pages a count len fits shorter)
        (written-failed a ((a + len) % 2 ^ 32) (range_bytes pages a len) (range_bytes pages ((a + len) % 2 ^ 32) (count - len)) old new
        (first-piece-range pages a count len fits some shorter inside ends) (has-bytes pages a len some) gives gained)

-- What is written of some bytes from here on is written of others from there on.
abbrev pub Continues : {K : Type 0} → Ghosts K → ℕ → List ℕ → K → ℕ → List ℕ → K → Type 0
Continues {K} k a bytes old a' bytes' mid = (went : Bool) (end : K) → IsWritten k a' bytes' went mid end → IsWritten k a bytes went old end

-- where the bytes of a write go
module _ (merged : Bool) (descriptor : ℕ) (bytes : List ℕ) where
  pub to_err-out : (merged ≡ true) ⊎ ((merged ≡ false) × (descriptor ≡ 2)) → bytes_out merged descriptor bytes ≡ []
  to_err-out (inl both) = rw both refl
  to_err-out (inr apart) = rw (apart.0, apart.1) refl

  pub to_out-err : (merged ≡ false) × (descriptor ≡ 2 → ⊥) → bytes_err merged descriptor bytes ≡ []
  to_out-err apart = rw (apart.0, ne_eqb descriptor 2 apart.1) refl

either_way : (b : Bool) (xs : List ℕ) → (if b then xs else xs) ≡ xs
either_way true xs = refl
either_way false xs = refl

pub bytes_out-none : (merged : Bool) (descriptor : ℕ) → bytes_out merged descriptor [] ≡ []
bytes_out-none true descriptor = refl
bytes_out-none false descriptor = either_way (nat_eq descriptor 1) []

pub bytes_err-none : (merged : Bool) (descriptor : ℕ) → bytes_err merged descriptor [] ≡ []
bytes_err-none true descriptor = refl
bytes_err-none false descriptor = either_way (nat_eq descriptor 2) []
