-- Rows that are rewritten subarray by subarray.
use Rattle.std.proofs.Common.{◌≡◌, ℕ, ◌+◌, ◌*◌, ◌/◌, ◌%◌, ◌<◌, ◌≤◌, Bool, true, false, cond, ◌&&◌, eqb, leb, ltb, List, [], length, set, refl, ap, sym, ◌∙◌, arith, ⊎_elim}
use Rattle.std.proofs.lemmas.Bool.{cases_lt, cases_eq, and_parts, ltb-true, eqb-true, or_cases, lt-ltb, le-ltb, le-leb, lt-leb}
use Rattle.std.proofs.lemmas.List.{get_or-set_same, get_or-set_other}
use Rattle.bit_rows.specs.Slices.{Slices, placed}
use Rattle.bit_rows.specs.Words.{word_bit}
use Rattle.steer_net.specs.Network.{numbered, position, is_width}
use Rattle.steer_net.specs.Moves.{rewritten, reaches, marked, is_wide}
use Rattle.steer_net.specs.Rows.{partly, spans}
use Rattle.steer_net.specs.Runs.{subarray_bit, HoldsSource, source_bit}
use Rattle.steer_net.specs.declared.sources.Source.{Source}
use Rattle.steer_net.specs.declared.reach.Reach.{Reach}
use Rattle.steer_net.proofs.Parts.{same_slices, joined, position-lt}

-- one more subarray is read
pub read_more : (subarrays : List (List ℕ)) (words : List ℕ) (source : Source) (width : ℕ) (s : Slices) (at sub : ℕ) → at < length subarrays → sub < at + 1
    → ((c : ℕ) → word_bit words c ≡ (ltb c s.columns && source_bit source width s (position width at c) (at % width)))
    → (sub < at → HoldsSource subarrays source width s sub) → HoldsSource (set subarrays at words) source width s sub
read_more subarrays words source width s at sub h l told before c = ⊎_elim
    (λ (q : sub ≡ at). rw (q, get_or-set_same subarrays at words [] h) (told c))
    (λ (q : sub ≡ at → ⊥). rw (get_or-set_other subarrays at sub words [] q) (before (omega arith) c)) (cases_eq sub at)

-- words that hold what a row gets have no bit past its columns
pub source_trimmed : (subarrays : List (List ℕ)) (source : Source) (width : ℕ) (s : Slices) (sub : ℕ) → HoldsSource subarrays source width s sub
    → (c : ℕ) → s.columns ≤ c → subarray_bit subarrays sub c ≡ false
source_trimmed subarrays source width s sub held c l = held c ∙ rw (le-ltb c s.columns l) refl

-- one more subarray is written
pub write_more : (row at : ℕ) (words : List ℕ) (new : ℕ → ℕ → Bool) (s : Slices) → ((c : ℕ) → word_bit words c ≡ new at c)
    → partly (spans at (at + 1)) row (λ sub c. word_bit words c) (partly (spans 0 at) row new s) ≡ partly (spans 0 (at + 1)) row new s
write_more row at words new s same =
    joined (spans at (at + 1)) (spans 0 at) (spans 0 (at + 1)) row (λ sub c. word_bit words c) new new s (λ sub col o l m. one sub col o)
  where
    one : (sub col : ℕ) (o : Bool) → cond (leb at sub && ltb sub (at + 1)) (word_bit words col) (cond (leb 0 sub && ltb sub at) (new sub col) o) ≡ cond (leb 0 sub && ltb sub (at + 1)) (new sub col) o
    one sub col o = rw (le-leb 0 sub (omega arith)) (⊎_elim
        (λ (l : sub < at). let m : sub < at + 1 = omega arith in rw (lt-leb at sub l, lt-ltb sub at l, lt-ltb sub (at + 1) m) refl)
        (λ (l : at ≤ sub). rw (le-leb at sub l, le-ltb sub at l) (⊎_elim
        (λ (m : sub < at + 1). let q : sub ≡ at = omega arith in rw (lt-ltb sub (at + 1) m) (same col ∙ ap (λ t. new t col) (sym q)))
        (λ (m : at + 1 ≤ sub). rw (le-ltb sub (at + 1) m) refl) (cases_lt sub (at + 1)))) (cases_lt sub at))

-- all subarrays are written
pub rewritten_all : (subarrays : List (List ℕ)) (source : Source) (width row : ℕ) (s : Slices) → ((sub : ℕ) → sub < 32 → HoldsSource subarrays source width s sub)
    → partly (spans 0 32) row (subarray_bit subarrays) s ≡ rewritten row width (source_bit source width s) s
rewritten_all subarrays source width row s held =
    same_slices (partly (spans 0 32) row (subarray_bit subarrays) s) (rewritten row width (source_bit source width s) s) refl
    (λ sub r col. inside (eqb r row) (placed s.columns sub col) (leb 0 sub && ltb sub 32) (subarray_bit subarrays sub col) (source_bit source width s (position width sub col) (sub % width)) (s.bit sub r col)
    (λ p. let q = and_parts (ltb sub 32) (ltb col s.columns) p in rw (le-leb 0 sub (omega arith), q.0) refl)
    (λ p. let q = and_parts (ltb sub 32) (ltb col s.columns) p in held sub (ltb-true sub 32 q.0) col ∙ rw q.1 refl))
    (λ sub col. refl) refl
  where
    inside : (b p d x y o : Bool) → (p ≡ true → d ≡ true) → (p ≡ true → x ≡ y) → cond b (cond p (cond d x o) o) o ≡ cond b (cond p y o) o
    inside true true d x y o g h = rw (g refl) (h refl)
    inside true false d x y o g h = refl
    inside false p d x y o g h = refl

-- each bit tells how its number stands to another
pub marked_told : (to num : ℕ) (how : Reach) (what : ℕ → Bool) (s : Slices) → ((e : ℕ) → e < 32 * s.columns → what e ≡ reaches how num e) → numbered to 1 0 what s ≡ marked to how num s
marked_told to num how what s told =
    same_slices (numbered to 1 0 what s) (marked to how num s) refl
    (λ sub r col. inside (eqb r to) (placed s.columns sub col) (what (0 + position 1 sub col)) (reaches how num (position 1 sub col)) (s.bit sub r col)
    (λ p. let q = and_parts (ltb sub 32) (ltb col s.columns) p in
    let l : position 1 sub col < s.columns * (32 / 1) = position-lt 1 s.columns sub col refl (ltb-true sub 32 q.0) (ltb-true col s.columns q.1) in
    let e : 0 + position 1 sub col ≡ position 1 sub col = omega arith in
    rw e (told (position 1 sub col) (omega arith))))
    (λ sub col. refl) refl
  where
    inside : (b p x y o : Bool) → (p ≡ true → x ≡ y) → cond b (cond p x o) o ≡ cond b (cond p y o) o
    inside true true x y o h = h refl
    inside true false x y o h = refl
    inside false p x y o h = refl

-- half of a width that has one is a width
pub wide_half : (wide : ℕ) → is_wide wide ≡ true → (is_width (wide / 2) ≡ true) × (wide / 2 * 2 ≡ wide) × (wide / 2 ≤ 16)
wide_half wide h = ⊎_elim
    (λ (r : eqb wide 16 ≡ true). rw (eqb-true wide 16 r) (refl, refl, omega arith))
    (λ (r : eqb wide 32 ≡ true). rw (eqb-true wide 32 r) (refl, refl, omega arith)) (or_cases (eqb wide 16) (eqb wide 32) h)
