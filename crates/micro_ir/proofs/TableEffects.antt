-- What the list of a table step does to each bit of the slices.
use Rattle.std.proofs.Common.{◌≡◌, ℕ, ◌+◌, ◌*◌, ◌<◌, ◌≤◌, ◌^◌, Bool, true, false, cond, ◌&&◌, ◌||◌, eqb, List, [], ◌∷◌, ◌++◌, refl, sym, ◌∙◌, ap, arith, ⊎_elim}
use Rattle.std.specs.Int.{bit_at}
use Rattle.std.proofs.lemmas.Bool.{cases_lt, false≢true}
use Rattle.std.proofs.lemmas.Nat.Bits.{bit_at_above}
use Rattle.bit_rows.specs.Slices.{Slices, placed}
use Rattle.cam_chain.specs.Slices.{selected}
use Rattle.micro_ir.specs.declared.op.MicroOp.TheVariants.{Update}
use Rattle.micro_ir.specs.Replay.{replay}
use Rattle.cam_chain.specs.KeyPairs.{keys_of, are_keys}
use Rattle.micro_ir.specs.Folding.{has_whole, table_keys, searches_for, any_match}
use Rattle.micro_ir.specs.Steps.{fires, pass_of}
use Rattle.micro_ir.specs.Tables.{moved_subs, table_list, rows_list}
use Rattle.micro_ir.proofs.Folds.{table-count, table-found, apart-whole}
use Rattle.micro_ir.proofs.TableLists.{rows-apart}
use Rattle.micro_ir.specs.Effects.{tag_source, OrsValues}
use Rattle.micro_ir.proofs.Lists.{replay-append, replay-num}
use Rattle.micro_ir.proofs.Keeping.{rows-keep}
use Rattle.micro_ir.proofs.Lift.{searches-bit, searches-columns, fresh-tag, passed-tag, passed-bit, passed-columns, replay-columns, replay-outside, place_true}
use Rattle.micro_ir.proofs.Shifted.{bit_at-mod, bit_at-shl_low, bit_at-shl_high, bit_at-shr}

-- A tag that arrives in a moved subarray comes from a subarray of the set.
record Comes (subs : ℕ) (up : Bool) (times sub : ℕ) : Type 0 where
  inside : tag_source up times sub < 32
  room : cond up times 0 ≤ sub
  chosen : selected subs (tag_source up times sub) ≡ true

comes : (subs : ℕ) (up : Bool) (times sub : ℕ) → subs < 2 ^ 32 → sub < 32 → selected (moved_subs subs up times) sub ≡ true → Comes subs up times sub
comes subs true times sub small h on =
    let raised : bit_at (moved_subs subs true times) sub ≡ bit_at (subs * 2 ^ times) sub = bit_at-mod (subs * 2 ^ times) 32 sub h in
    ⊎_elim
    (λ (l : sub < times). absurd (false≢true (rw (raised, bit_at-shl_low subs times sub l) at on)))
    (λ (l : times ≤ sub). record { inside = omega arith; room = l; chosen = rw (raised, bit_at-shl_high subs times sub l) at on })
    (cases_lt sub times)
comes subs false times sub small h on =
    ⊎_elim
    (λ (l : sub + times < 32). record { inside = l; room = omega arith; chosen = rw (bit_at-shr subs times sub) at on })
    (λ (l : 32 ≤ sub + times). absurd (false≢true (rw (bit_at-shr subs times sub, bit_at_above subs 32 (sub + times) small l) at on)))
    (cases_lt (sub + times) 32)

-- a tag after the pass of a step
arrived : (up : Bool) (times sub col : ℕ) (s : Slices) → sub < 32 → col < s.columns → tag_source up times sub < 32 → cond up times 0 ≤ sub
    → (replay (pass_of up times) s).tag sub col ≡ s.tag (tag_source up times sub) col
arrived up times sub col s h c inside room =
    let to : 0 * 32 + sub ≡ sub = omega arith in
    let from : 0 * 32 + tag_source up times sub ≡ tag_source up times sub = omega arith in
    let moved : (replay (pass_of up times) s).tag (0 * 32 + sub) col ≡ s.tag (0 * 32 + tag_source up times sub) col = passed-tag up times 0 32 sub col s (omega arith) h c inside room in
    rw (to, from) at moved

nothing : (o a : Bool) → o ≡ o || (a && false)
nothing true a = refl
nothing false true = refl
nothing false false = refl

-- a guarded write of 1 is an or
ored : (p sel e t f o : Bool) → p ≡ true → (sel ≡ true → t ≡ f) → cond (p && sel && e && t) true o ≡ o || (e && sel && f)
ored p true true true f o hp h = rw (hp, sym (h refl)) (or_true o)
  where
    or_true : (o : Bool) → true ≡ o || true
    or_true true = refl
    or_true false = refl
ored p true true false f o hp h = rw (hp, sym (h refl)) (nothing o true)
ored p true false t f o hp h = rw hp (nothing o true)
ored p false true t f o hp h = rw hp (nothing o true)
ored p false false t f o hp h = rw hp (nothing o true)

-- one bit after the list of a step
rows-bit : (subs : ℕ) (inputs on : List ℕ) (out : ℕ) (up : Bool) (times : ℕ) (s : Slices) (sub row col : ℕ) → subs < 2 ^ 32 → sub < 32 → col < s.columns
    → (replay (rows_list subs inputs on out up times) s).bit sub row col
    ≡ s.bit sub row col || (eqb row out && selected (moved_subs subs up times) sub && any_match (table_keys inputs on out) (λ r. s.bit (tag_source up times sub) r col))
unfolding replay rows_list table_keys
rows-bit subs inputs [] out up times s sub row col small h c = nothing (s.bit sub row col) (eqb row out && selected (moved_subs subs up times) sub)
rows-bit subs inputs (t ∷ ts) out up times s sub row col small h c =
    let keys = table_keys inputs (t ∷ ts) out in
    let found = searches_for subs false keys in
    let shift = pass_of up times in
    let last = Update (moved_subs subs up times) out true in
    let s1 = replay found s in
    let s2 = replay shift s1 in
    let cols1 : s1.columns ≡ s.columns = searches-columns subs false keys s in
    let cols : s2.columns ≡ s.columns = passed-columns up times s1 ∙ cols1 in
    let bits : s2.bit ≡ s.bit = passed-bit up times s1 ∙ searches-bit subs false keys s in
    let old : s2.bit sub row col ≡ s.bit sub row col = ap (λ (g : ℕ → ℕ → ℕ → Bool). g sub row col) bits in
    ap (λ (z : Slices). z.bit sub row col) (replay-append found (shift ++ last ∷ []) s ∙ replay-append shift (last ∷ []) s1)
    ∙ rw old (ored (placed s2.columns sub col) (selected (moved_subs subs up times) sub) (eqb row out) (s2.tag sub col)
    (any_match keys (λ r. s.bit (tag_source up times sub) r col)) (s.bit sub row col)
    (rw cols (place_true s.columns sub col h c))
    (λ m.
    let from = comes subs up times sub small h m in
    let c1 : col < s1.columns = rw cols1 c in
    arrived up times sub col s1 h c1 from.inside from.room
    ∙ fresh-tag subs keys s (tag_source up times sub) col (table-count inputs t ts out) (place_true s.columns (tag_source up times sub) col from.inside c) from.chosen))

-- the list of a step or-s its function, where its keys find what its values do
rows-or : (subs : ℕ) (inputs on : List ℕ) (out : ℕ) (up : Bool) (times : ℕ) → subs < 2 ^ 32 → ((g : ℕ → Bool) → any_match (table_keys inputs on out) g ≡ fires inputs on g)
    → OrsValues subs inputs on out up times (rows_list subs inputs on out up times)
rows-or subs inputs on out up times small same =
    let ops = rows_list subs inputs on out up times in
    record {
      bits = λ s sub row col h c. rows-bit subs inputs on out up times s sub row col small h c
          ∙ ap (λ b. s.bit sub row col || (eqb row out && selected (moved_subs subs up times) sub && b)) (same (λ r. s.bit (tag_source up times sub) r col));
      outside = replay-outside ops;
      num = λ s. replay-num ops s (rows-keep subs inputs on out up times);
      columns = replay-columns ops;
    }

-- so it does where a value wants no two bits of a row; and so does the list of a table step
pub rows-ors : (subs : ℕ) (inputs on : List ℕ) (out : ℕ) (up : Bool) (times : ℕ) → subs < 2 ^ 32 → has_whole inputs on ≡ true
    → OrsValues subs inputs on out up times (rows_list subs inputs on out up times)
rows-ors subs inputs on out up times small whole = rows-or subs inputs on out up times small (λ g. table-found inputs on out g whole)

empty-ors : (subs : ℕ) (inputs : List ℕ) (out : ℕ) (up : Bool) (times : ℕ) → OrsValues subs inputs [] out up times (table_list subs inputs [] out up times)
unfolding replay table_list
empty-ors subs inputs out up times = record {
  bits = λ s sub row col h c. nothing (s.bit sub row col) (eqb row out && selected (moved_subs subs up times) sub);
  outside = λ s sub row col out_of. refl;
  num = λ s. refl;
  columns = λ s. refl;
}

pub table-ors : (subs : ℕ) (inputs on : List ℕ) (out : ℕ) (up : Bool) (times : ℕ) → are_keys (keys_of inputs 0) ≡ true
    → (has_whole inputs on ≡ true → OrsValues subs inputs on out up times (rows_list subs inputs on out up times))
    → OrsValues subs inputs on out up times (table_list subs inputs on out up times)
table-ors subs inputs [] out up times keys ors = empty-ors subs inputs out up times
table-ors subs inputs (t ∷ ts) out up times keys ors = rw (← rows-apart subs inputs (t ∷ ts) out up times keys) (ors (apart-whole inputs t ts keys))
