-- Sums and differences with a sign that are clipped, with the row that tells it.
use Rattle.std.proofs.Common.{◌≡◌, ℕ, zero, suc, ◌+◌, ◌-◌, ◌<◌, ◌≤◌, Bool, true, false, cond, not, ltb, ◌||◌, ◌&&◌, List, [], ◌∷◌, ◌++◌, refl, sym, ◌∙◌, ap, arith}
use mathlib.Core.Bool.{beq}
use Rattle.std.proofs.lemmas.Bool.{lt-ltb}
use Rattle.bit_laws.specs.Numbers.{number}
use Rattle.bit_laws.specs.Rounding.{low_int, clipped, clips}
use Rattle.bit_laws.proofs.Numbers.{number-same}
use Rattle.micro_ir.specs.Steps.{Step, step_on, steps_on}
use Rattle.micro_ir.specs.WorkRows.{carry_row, result_row, broadcast_row}
use Rattle.micro_ir.specs.Pieces.{above, clear, broadcast}
use Rattle.micro_ir.proofs.Effects.{downs-here, broadcast-on}
use Rattle.micro_ir.proofs.OneElement.{hit, fires-hit, clear-here, above-else, above-here}
use Rattle.micro_ir.proofs.StepLists.{steps_on-append}
use Rattle.gen_arith.specs.Recipes.{odd_on}
use Rattle.gen_arith.proofs.Rows.{finds, carried}
use Rattle.gen_shift.specs.Rows.{is_among}
use Rattle.gen_shift.proofs.Stays.{Within, within-append, within-downs, within-broadcast}
use Rattle.row_sums.specs.Sums.{total_row, sum_from}
use Rattle.row_sums.proofs.Kept.{kept, differ}
use Rattle.row_sums.proofs.Totals.{sum_from-on, sum_from-only}
use Rattle.gen_fixed.specs.Lists.{overflow_row, operands, carries_of, beyond_on, bounded, overflow_on, overflowing, saturating_signed}
use Rattle.gen_fixed.specs.Kinds.{exact}
use Rattle.gen_fixed.proofs.Operands.{fewer, reads, blind}
use Rattle.gen_fixed.proofs.Totals.{total_bits, signed-exact-is}
use Rattle.gen_fixed.proofs.Bounds.{clip_bits, clip-is}
use Rattle.gen_fixed.proofs.Bounded.{bounded-only, bounded-low}
use Rattle.gen_fixed.proofs.Unsigned.{Saturated}

-- ---- the overflow, by the signs of the operands and of the total

abbrev pub overflows : (sub : Bool) → (x y t : Bool) → Bool
overflows sub x y t = hit (overflow_on sub) (x ∷ y ∷ t ∷ [])

-- the total has the wrong sign
overflow-is : (sub c s r : Bool) → overflows sub s r (finds odd_on c s r) ≡ not (beq (finds odd_on c s r) (finds (beyond_on true sub) c s r))
overflow-is false true true true = refl
overflow-is false true true false = refl
overflow-is false true false true = refl
overflow-is false true false false = refl
overflow-is false false true true = refl
overflow-is false false true false = refl
overflow-is false false false true = refl
overflow-is false false false false = refl
overflow-is true true true true = refl
overflow-is true true true false = refl
overflow-is true true false true = refl
overflow-is true true false false = refl
overflow-is true false true true = refl
overflow-is true false true false = refl
overflow-is true false false true = refl
overflow-is true false false false = refl

-- and the exact number has that of the first operand
sign-is : (sub c s r : Bool) → overflows sub s r (finds odd_on c s r) && not (beq s (finds (beyond_on true sub) c s r)) ≡ false
sign-is false true true true = refl
sign-is false true true false = refl
sign-is false true false true = refl
sign-is false true false false = refl
sign-is false false true true = refl
sign-is false false true false = refl
sign-is false false false true = refl
sign-is false false false false = refl
sign-is true true true true = refl
sign-is true true true false = refl
sign-is true true false true = refl
sign-is true true false false = refl
sign-is true false true true = refl
sign-is true false true false = refl
sign-is true false false true = refl
sign-is true false false false = refl

agree : (v s k : Bool) → v && not (beq s k) ≡ false → v ≡ true → s ≡ k
agree true true true h y = refl
agree true true false h y = absurd (cc)
agree true false true h y = absurd (cc)
agree true false false h y = refl
agree false s k h y = absurd (cc)

-- ---- the list

-- the rows that it writes
abbrev pub signed_rows : List ℕ
signed_rows = carry_row ∷ result_row ∷ broadcast_row ∷ total_row ∷ overflow_row ∷ []

overflowing-only : (rows : List ℕ) (sub : Bool) (w a b : ℕ) → is_among rows overflow_row ≡ true → Within rows (overflowing sub w a b)
overflowing-only rows sub w a b v = (v, (v, within-downs rows overflow_row (w - 1) v))

pub signed-only : (rows : List ℕ) (sub : Bool) (w a b : ℕ) → is_among rows carry_row ≡ true → is_among rows result_row ≡ true → is_among rows broadcast_row ≡ true → is_among rows total_row ≡ true → is_among rows overflow_row ≡ true
    → Within rows (saturating_signed sub w a b)
unfolding saturating_signed
signed-only rows sub w a b c d s t v =
    within-append rows (sum_from w [] [] (operands a b) odd_on (carries_of sub) total_row) _ (sum_from-only rows w [] [] (operands a b) odd_on (carries_of sub) total_row c t)
    (within-append rows (overflowing sub w a b) _ (overflowing-only rows sub w a b v)
    (within-append rows (broadcast w a (w - 1)) _ (within-broadcast rows w a (w - 1) s) (bounded-only rows w w total_row result_row d)))

or_no : (b : Bool) → b || false ≡ b
or_no true = refl
or_no false = refl

-- the overflow of n + 1 digits
abbrev overflow_of : (sub : Bool) (n : ℕ) (x y : ℕ → Bool) → Bool
overflow_of sub n x y = overflows sub (x n) (y n) (total_bits (carries_of sub) x y n)

module _ (sub : Bool) (n a b : ℕ) (e : ℕ → ℕ → Bool) (a_off : is_among signed_rows a ≡ false) (b_off : is_among signed_rows b ≡ false) where
  abbrev w : ℕ
  w = suc n

  abbrev t : ℕ → Bool
  t = total_bits (carries_of sub) (e a) (e b)

  abbrev v : Bool
  v = overflow_of sub n (e a) (e b)

  abbrev sums : List Step
  sums = sum_from w [] [] (operands a b) odd_on (carries_of sub) total_row

  abbrev summed : ℕ → ℕ → Bool
  summed = steps_on sums e

  abbrev two : List ℕ
  two = carry_row ∷ total_row ∷ []

  digits-are : (i : ℕ) → i < w → summed total_row i ≡ t i
  digits-are i l =
      sum_from-on w total_row [] [] (operands a b) odd_on (carries_of sub) odd_on (carries_of sub) (λ f. f a) (λ f. f b) (reads odd_on a b) (reads (carries_of sub) a b)
      (blind two a (fewer two signed_rows a refl a_off)) (blind two b (fewer two signed_rows b refl b_off)) (λ f g same. refl) (omega arith) e (omega arith) i l

  operand-same : (r : ℕ) → is_among signed_rows r ≡ false → summed r ≡ e r
  operand-same r off = kept two sums e r (sum_from-only two w [] [] (operands a b) odd_on (carries_of sub) total_row refl refl) (fewer two signed_rows r refl off)

  abbrev flagged : ℕ → ℕ → Bool
  flagged = steps_on (overflowing sub w a b) summed

  abbrev one : List ℕ
  one = overflow_row ∷ []

  behind : (r : ℕ) → is_among one r ≡ false → flagged r ≡ summed r
  behind r off = kept one (overflowing sub w a b) summed r (overflowing-only one sub w a b refl) off

  flag-is : (i : ℕ) → i ≤ n → flagged overflow_row i ≡ v
  unfolding steps_on
  flag-is i l =
      let top : suc n - 1 ≡ n = omega arith in
      let rows : List ℕ = a ∷ b ∷ total_row ∷ [] in
      let e1 = step_on (clear w overflow_row) summed in
      let step = above rows (overflow_on sub) overflow_row (w - 1) 0 in
      let e2 = step_on step e1 in
      let off : (i : ℕ) → i < w → e1 overflow_row i ≡ false = λ i l. clear-here w overflow_row summed i l in
      let keep : (r : ℕ) → is_among one r ≡ false → e1 r ≡ summed r = λ r q. kept one (clear w overflow_row ∷ []) summed r (refl, tt) q in
      let a1 : e1 a ≡ e a = keep a (fewer one signed_rows a refl a_off) ∙ operand-same a a_off in
      let b1 : e1 b ≡ e b = keep b (fewer one signed_rows b refl b_off) ∙ operand-same b b_off in
      let t1 : e1 total_row n ≡ t n = (λ m. keep total_row refl m n) ∙ digits-are n (omega arith) in
      let y : w - 1 + 0 ≡ w - 1 = omega arith in
      let here : e2 overflow_row (w - 1) ≡ v =
      ap (λ (k : ℕ). step_on step e1 overflow_row k) (sym y) ∙ above-here rows (overflow_on sub) overflow_row (w - 1) 0 e1
      ∙ rw (y, top, off n (omega arith), fires-hit rows (overflow_on sub) (λ r. e1 r n), a1, b1, t1) (or_no v) in
      downs-here overflow_row (w - 1) e2 (λ i m. above-else rows (overflow_on sub) overflow_row (w - 1) 0 e1 overflow_row i (omega arith) ∙ off i (omega arith)) i (omega arith) ∙ here

  abbrev cast : ℕ → ℕ → Bool
  cast = steps_on (broadcast w a (w - 1)) flagged

  cast-same : (r : ℕ) → is_among (broadcast_row ∷ []) r ≡ false → cast r ≡ flagged r
  cast-same r off = kept (broadcast_row ∷ []) (broadcast w a (w - 1)) flagged r (within-broadcast (broadcast_row ∷ []) w a (w - 1) refl) off

  sign-row : (i : ℕ) → i ≤ n → cast broadcast_row i ≡ e a n
  sign-row i l =
      let top : suc n - 1 ≡ n = omega arith in
      let inside : i < w = omega arith in
      broadcast-on w a (w - 1) flagged (omega arith) (differ a broadcast_row signed_rows a_off refl) broadcast_row i inside
      ∙ rw (lt-ltb i w inside) (ap (flagged a) top ∙ (λ m. behind a (fewer one signed_rows a refl a_off) m n) ∙ (λ m. operand-same a a_off m n))

  total-same : (i : ℕ) → i ≤ n → cast total_row i ≡ t i
  total-same i l = (λ m. cast-same total_row refl m i) ∙ (λ m. behind total_row refl m i) ∙ digits-are i (omega arith)

  flag-same : (i : ℕ) → i ≤ n → cast overflow_row i ≡ v
  flag-same i l = (λ m. cast-same overflow_row refl m i) ∙ flag-is i l

  whole : steps_on (saturating_signed sub w a b) e ≡ steps_on (bounded w w total_row result_row) cast
  unfolding saturating_signed
  whole =
      steps_on-append sums (overflowing sub w a b ++ (broadcast w a (w - 1) ++ bounded w w total_row result_row)) e
      ∙ steps_on-append (overflowing sub w a b) (broadcast w a (w - 1) ++ bounded w w total_row result_row) summed
      ∙ steps_on-append (broadcast w a (w - 1)) (bounded w w total_row result_row) flagged

  signed-bits : Saturated w overflow_row (number w (clip_bits n v (e a n) t)) v (steps_on (saturating_signed sub w a b) e)
  signed-bits = rw whole (record {
    made = number-same w (steps_on (bounded w w total_row result_row) cast result_row) (clip_bits n v (e a n) t)
        (λ i l. bounded-low w n total_row result_row v (e a n) cast (omega arith) (omega arith) (omega arith) (omega arith) flag-same sign-row i (omega arith)
        ∙ ap (λ c. cond (ltb i n) (cond v (not (e a n)) c) (cond v (e a n) c)) (total-same i (omega arith)));
    told = λ i l. (λ m. kept (result_row ∷ []) (bounded w w total_row result_row) cast overflow_row (bounded-only (result_row ∷ []) w w total_row result_row refl) refl m i) ∙ flag-same i (omega arith);
  })

pub signed-on : (sub : Bool) (w a b : ℕ) (e : ℕ → ℕ → Bool) → is_among signed_rows a ≡ false → is_among signed_rows b ≡ false → 0 < w
    → (let z = exact true sub w (number w (e a)) (number w (e b)) in
    Saturated w overflow_row (low_int w (clipped w z)) (clips w z) (steps_on (saturating_signed sub w a b) e))
signed-on sub zero a b e a_off b_off some = absurd (omega arith)
signed-on sub (suc n) a b e a_off b_off some =
    let s = signed-bits sub n a b e a_off b_off in
    let c = carried (carries_of sub) false (e a) (e b) n in
    let k = finds (beyond_on true sub) c (e a n) (e b n) in
    let v = overflow_of sub n (e a) (e b) in
    let q = clip-is n (total_bits (carries_of sub) (e a) (e b)) k (e a n) v (overflow-is sub c (e a n) (e b n)) (agree v (e a n) k (sign-is sub c (e a n) (e b n))) in
    let z = signed-exact-is sub n (e a) (e b) in
    record {
      made = s.made ∙ q.value ∙ ap (λ z. low_int (suc n) (clipped (suc n) z)) (sym z);
      told = λ i l. s.told i l ∙ q.clip ∙ ap (clips (suc n)) (sym z);
    }
