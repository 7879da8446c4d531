-- A row that is clipped by its overflow and its sign, on one element.
use Rattle.std.proofs.Common.{◌≡◌, ◌≢◌, ℕ, suc, ◌+◌, ◌-◌, ◌<◌, ◌≤◌, Bool, true, false, cond, not, ltb, ◌||◌, ◌&&◌, List, [], ◌∷◌, refl, sym, ◌∙◌, ap, arith, ⊎_elim}
use Rattle.std.proofs.lemmas.Bool.{cases_lt, lt-ltb, le-ltb, le-leb}
use Rattle.micro_ir.specs.Steps.{fires, moved, step_on, steps_on}
use Rattle.micro_ir.specs.WorkRows.{broadcast_row}
use Rattle.micro_ir.specs.Pieces.{ranged, above, clear}
use Rattle.micro_ir.proofs.OneElement.{hit, fires-hit, step-row, step-here, step-else, clear-here, above-else, above-here}
use Rattle.gen_shift.specs.Rows.{is_among}
use Rattle.gen_shift.proofs.Stays.{Within}
use Rattle.gen_fixed.specs.Lists.{overflow_row, low_range, bounded}
use Rattle.gen_fixed.proofs.Bounds.{clip_bits}

or_no : (b : Bool) → b || false ≡ b
or_no true = refl
or_no false = refl

pub bounded-only : (rows : List ℕ) (lanes w row out : ℕ) → is_among rows out ≡ true → Within rows (bounded lanes w row out)
bounded-only rows lanes w row out h = (h, (h, (h, tt)))

low-found : (v s t : Bool) → hit (1 ∷ 4 ∷ 5 ∷ 6 ∷ []) (v ∷ s ∷ t ∷ []) ≡ cond v (not s) t
low-found true true true = refl
low-found true true false = refl
low-found true false true = refl
low-found true false false = refl
low-found false true true = refl
low-found false true false = refl
low-found false false true = refl
low-found false false false = refl

chosen : (v s t : Bool) → hit (3 ∷ 4 ∷ 6 ∷ 7 ∷ []) (v ∷ s ∷ t ∷ []) ≡ cond v s t
chosen true true true = refl
chosen true true false = refl
chosen true false true = refl
chosen true false false = refl
chosen false true true = refl
chosen false true false = refl
chosen false false true = refl
chosen false false false = refl

low-here : (n : ℕ) (inputs on : List ℕ) (out : ℕ) (e : ℕ → ℕ → Bool) (i : ℕ) → e out i ≡ false
    → step_on (ranged inputs on out (low_range n)) e out i ≡ ltb i n && fires inputs on (λ r. e r i)
low-here n inputs on out e i clear =
    let z : i - 0 ≡ i = omega arith in
    let step = ranged inputs on out (low_range n) in
    ⊎_elim
    (λ (l : i < n).
    let at : moved step i ≡ true = rw (le-leb 0 i (omega arith), z, le-leb 0 i (omega arith), lt-ltb i n l) refl in
    step-here step e i refl at ∙ rw (z, clear, lt-ltb i n l) (or_no (fires inputs on (λ r. e r i))))
    (λ (l : n ≤ i).
    let at : moved step i ≡ false = rw (le-leb 0 i (omega arith), z, le-leb 0 i (omega arith), le-ltb i n l) refl in
    step-else step e out i at ∙ clear ∙ rw (le-ltb i n l) refl)
    (cases_lt i n)

-- where the overflow v and the sign s stand in each of the n + 1 low bits
module _ (lanes n row out : ℕ) (v s : Bool) (e : ℕ → ℕ → Bool) (wide : n < lanes) (vo : overflow_row ≢ out) (so : broadcast_row ≢ out) (ro : row ≢ out)
    (is_v : (i : ℕ) → i ≤ n → e overflow_row i ≡ v) (is_s : (i : ℕ) → i ≤ n → e broadcast_row i ≡ s) where
  abbrev inputs : List ℕ
  inputs = overflow_row ∷ broadcast_row ∷ row ∷ []

  abbrev cleared : ℕ → ℕ → Bool
  cleared = step_on (clear lanes out) e

  abbrev lower : ℕ → ℕ → Bool
  lower = step_on (ranged inputs (1 ∷ 4 ∷ 5 ∷ 6 ∷ []) out (low_range n)) cleared

  -- before the highest bit
  low-is : (i : ℕ) → i < lanes → lower out i ≡ ltb i n && cond v (not s) (e row i)
  low-is i inside =
      low-here n inputs (1 ∷ 4 ∷ 5 ∷ 6 ∷ []) out cleared i (clear-here lanes out e i inside)
      ∙ ⊎_elim
      (λ (l : i < n).
      rw (lt-ltb i n l, fires-hit inputs (1 ∷ 4 ∷ 5 ∷ 6 ∷ []) (λ r. cleared r i), step-row (clear lanes out) e overflow_row i vo ∙ is_v i (omega arith), step-row (clear lanes out) e broadcast_row i so ∙ is_s i (omega arith), step-row (clear lanes out) e row i ro)
      (low-found v s (e row i)))
      (λ (l : n ≤ i). rw (le-ltb i n l) refl)
      (cases_lt i n)

  still : (r i : ℕ) → r ≢ out → lower r i ≡ e r i
  still r i other = step-row (ranged inputs (1 ∷ 4 ∷ 5 ∷ 6 ∷ []) out (low_range n)) cleared r i other ∙ step-row (clear lanes out) e r i other

  high-is : step_on (above inputs (3 ∷ 4 ∷ 6 ∷ 7 ∷ []) out n 0) lower out n ≡ cond v s (e row n)
  high-is =
      let z : n + 0 ≡ n = omega arith in
      ap (λ (k : ℕ). step_on (above inputs (3 ∷ 4 ∷ 6 ∷ 7 ∷ []) out n 0) lower out k) (sym z) ∙ above-here inputs (3 ∷ 4 ∷ 6 ∷ 7 ∷ []) out n 0 lower
      ∙ rw (z, low-is n wide, le-ltb n n (omega arith), fires-hit inputs (3 ∷ 4 ∷ 6 ∷ 7 ∷ []) (λ r. lower r n), still overflow_row n vo ∙ is_v n (omega arith), still broadcast_row n so ∙ is_s n (omega arith), still row n ro)
      (or_no _ ∙ chosen v s (e row n))

  parts : steps_on (bounded lanes (suc n) row out) e ≡ step_on (above inputs (3 ∷ 4 ∷ 6 ∷ 7 ∷ []) out n 0) lower
  unfolding steps_on
  parts = let top : suc n - 1 ≡ n = omega arith in rw top refl

  -- the low bits are those of the clipped number, and zeros stand above them
  pub bounded-low : (i : ℕ) → i ≤ n → steps_on (bounded lanes (suc n) row out) e out i ≡ clip_bits n v s (e row) i
  bounded-low i l =
      ap (λ (f : ℕ → ℕ → Bool). f out i) parts
      ∙ ⊎_elim
      (λ (m : i < n). above-else inputs (3 ∷ 4 ∷ 6 ∷ 7 ∷ []) out n 0 lower out i (omega arith) ∙ low-is i (omega arith) ∙ rw (lt-ltb i n m) refl)
      (λ (m : n ≤ i). let q : i ≡ n = omega arith in ap (step_on (above inputs (3 ∷ 4 ∷ 6 ∷ 7 ∷ []) out n 0) lower out) q ∙ high-is ∙ rw (q, le-ltb n n (omega arith)) refl)
      (cases_lt i n)

  pub bounded-high : (i : ℕ) → n < i → i < lanes → steps_on (bounded lanes (suc n) row out) e out i ≡ false
  bounded-high i l inside =
      ap (λ (f : ℕ → ℕ → Bool). f out i) parts
      ∙ above-else inputs (3 ∷ 4 ∷ 6 ∷ 7 ∷ []) out n 0 lower out i (omega arith) ∙ low-is i inside ∙ rw (le-ltb i n (omega arith)) refl
