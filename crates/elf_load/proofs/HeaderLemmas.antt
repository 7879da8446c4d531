-- One more header of a table, one more segment, and one more segment that shares no byte with those after it.
use Rattle.std.proofs.Common.{◌≡◌, ℕ, suc, ◌+◌, ◌<◌, List, [], ◌∷◌, ◌++◌, true, false, sym, ◌∙◌, ap, arith, length, drop, get_or, add-one}
use Rattle.std.specs.Prelude.{map, ◌||◌}
use Rattle.std.specs.List.{range_with_len, list_any}
use Rattle.std.proofs.lemmas.List.FromFn.{map-range_with_len_more}
use Rattle.std.proofs.Math.Seq.{drop-cons}
use Rattle.elf_load.specs.declared.headers.Header.{Header}
use Rattle.elf_load.specs.Headers.{header_at}
use Rattle.elf_load.specs.Faults.{overlaps, any_overlap}

pub headers-more : (image : List ℕ) (k : ℕ) (found : List Header) → found ≡ map (header_at image) (range_with_len 0 k)
    → found ++ header_at image k ∷ [] ≡ map (header_at image) (range_with_len 0 (k + 1))
headers-more image k found e =
    ap (λ hs. hs ++ header_at image k ∷ []) e ∙ sym (map-range_with_len_more (header_at image) 0 k k (omega arith))

pub any_overlap-passed : (hs : List Header) (k : ℕ) (d : Header) → k < length hs → list_any (overlaps (get_or hs k d)) (drop (k + 1) hs) ≡ false
    → any_overlap (drop k hs) ≡ any_overlap (drop (k + 1) hs)
any_overlap-passed hs k d within e =
    let none = rw (add-one k) at e in
    rw (drop-cons hs k d, add-one k) (ap (λ b. b || any_overlap (drop (suc k) hs)) none)

pub any_overlap-found : (hs : List Header) (k : ℕ) (d : Header) → k < length hs → list_any (overlaps (get_or hs k d)) (drop (k + 1) hs) ≡ true
    → any_overlap (drop k hs) ≡ true
any_overlap-found hs k d within e =
    let some = rw (add-one k) at e in
    rw (drop-cons hs k d) (ap (λ b. b || any_overlap (drop (suc k) hs)) some)

-- the steps of the loops over the table and over the segments
pub ruleset header_steps = (headers-more)

pub ruleset overlap_steps = (any_overlap-passed, any_overlap-found)
