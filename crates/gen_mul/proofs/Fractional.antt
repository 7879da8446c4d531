-- The product over 2^(w - 1), rounded and clipped, on one element.
use Rattle.std.proofs.Common.{◌≡◌, ◌≢◌, ℕ, ℤ, ◌+◌, ◌-◌, ◌*◌, ◌^◌, ◌<◌, ◌*ℤ◌, Bool, true, false, cond, not, eqb, ltb, ◌||◌, zero, suc, List, [], ◌∷◌, ◌++◌, refl, sym, ◌∙◌, ap, arith, ⊎_elim}
use Rattle.std.specs.Int.{int_shr}
use Rattle.std.proofs.lemmas.Bool.{cases_eq, ne_eqb}
use Rattle.std.proofs.lemmas.Nat.{mod-mul-add}
use Rattle.bit_laws.specs.Numbers.{number, low}
use Rattle.bit_laws.specs.Rounding.{bit_of_int, low_int, any_below, last_out, more_out, rounded}
use Rattle.bit_laws.specs.Signed.{signed}
use Rattle.bit_laws.proofs.Numbers.{number-lt, number-same}
use Rattle.bit_laws.proofs.Ints.{number-shr}
use Rattle.bit_laws.proofs.Rounding.{rounds, plus-zero}
use Rattle.micro_ir.specs.Increments.{ripple, increment, half_carries, half_sums}
use Rattle.micro_ir.specs.Pieces.{above, below, clear}
use Rattle.micro_ir.specs.Steps.{Step, step_on, steps_on}
use Rattle.micro_ir.specs.WorkRows.{carry_row, result_row}
use Rattle.micro_ir.proofs.OneElement.{hit, fires-hit, step-row, clear-here, below-here}
use Rattle.micro_ir.proofs.StepLists.{steps_on-append}
use Rattle.gen_shift.specs.Laws.{AreModeRows}
use Rattle.gen_shift.specs.Rows.{moved_row, last_role, more_row, is_odd, is_among}
use Rattle.gen_shift.specs.Lists.{mode_steps}
use Rattle.gen_shift.proofs.Adding.{mode-added}
use Rattle.gen_shift.proofs.GoneOut.{any-same}
use Rattle.gen_shift.proofs.Stays.{Within, within-append}
use Rattle.row_sums.specs.Sums.{total_row, half_role, half_after}
use Rattle.row_sums.proofs.Kept.{kept, differ, off_first, halves}
use Rattle.row_sums.proofs.Places.{doubled-here}
use Rattle.gen_mul.specs.Lists.{high_row, corrected_row, multiplying, correcting, both_corrections}
use Rattle.gen_mul.specs.Fractions.{quotient, lower, left_over, rounding, rounded_row}
use Rattle.gen_mul.proofs.Products.{product_works, product-halves}
use Rattle.gen_mul.proofs.Signs.{correcting-only, both-on}
use Rattle.gen_mul.proofs.Whole.{mulh-whole}
use Rattle.gen_mul.proofs.Exact.{low-product, shr-euclid, low-bits, high-bits}

-- ---- the two halves of the product with signs

-- The bits of z: the low half, and the high half above it.
pub record Halved (w : ℕ) (z : ℤ) (e : ℕ → ℕ → Bool) : Type 0 where
  pub low : (j : ℕ) → j < w → e (half_after w) j ≡ bit_of_int z j
  pub high : (j : ℕ) → j < w → e corrected_row j ≡ bit_of_int z (w + j)

-- a row of the low half is none of the rows that are neither of its roles
pub half-off : (w : ℕ) (rows : List ℕ) → is_among rows 43 ≡ false → is_among rows 44 ≡ false → is_among rows (half_after w) ≡ false
half-off w rows one two = off_first (half_after w) (half_role (not (is_odd w))) (halves (is_odd w)) rows one two

pub both-only : (rows : List ℕ) (w a b : ℕ) → is_among rows 35 ≡ true → is_among rows 37 ≡ true → is_among rows 38 ≡ true → is_among rows 39 ≡ true → Within rows (both_corrections w a b)
both-only rows w a b c s t u =
    within-append rows (correcting w b a high_row total_row) (correcting w a b total_row corrected_row)
    (correcting-only rows w b a high_row total_row c s t) (correcting-only rows w a b total_row corrected_row c s u)

pub halved : (w a b : ℕ) (e : ℕ → ℕ → Bool) → 0 < w → is_among product_works a ≡ false → is_among product_works b ≡ false
    → Halved w (signed w (number w (e a)) *ℤ signed w (number w (e b))) (steps_on (multiplying w a b ++ both_corrections w a b) e)
halved w a b e some a_off b_off =
    let x = number w (e a) in
    let y = number w (e b) in
    let z = signed w (number w (e a)) *ℤ signed w (number w (e b)) in
    let first = multiplying w a b in
    let rest = both_corrections w a b in
    let e1 = steps_on first e in
    let now = steps_on rest e1 in
    let split : steps_on (first ++ rest) e ≡ now = steps_on-append first rest e in
    let rows : List ℕ = 35 ∷ 37 ∷ 38 ∷ 39 ∷ [] in
    let stays : now (half_after w) ≡ e1 (half_after w) = kept rows rest e1 (half_after w) (both-only rows w a b refl refl refl refl) (half-off w rows refl refl) in
    let p = product-halves w a b e a_off b_off in
    let l : number w (e1 (half_after w)) ≡ low w (number w (e a) * number w (e b)) =
    sym (ap (low w) (sym p) ∙ mod-mul-add (number w (e1 high_row)) (2 ^ w) (number w (e1 (half_after w))) (number-lt w (e1 (half_after w)))) in
    let low_is : number w (now (half_after w)) ≡ low_int w z =
    ap (number w) stays ∙ l ∙ sym (low-product w (number w (e a)) (number w (e b)) (number-lt w (e a)) (number-lt w (e b))) in
    let high_is : number w (now corrected_row) ≡ low_int w (int_shr z w) =
    ap (λ (s : ℕ → ℕ → Bool). number w (s corrected_row)) (steps_on-append (correcting w b a high_row total_row) (correcting w a b total_row corrected_row) e1)
    ∙ both-on w a b e some a_off b_off ∙ mulh-whole w (number w (e a)) (number w (e b)) (number-lt w (e a)) (number-lt w (e b)) ∙ ap (low_int w) (shr-euclid z w) in
    rw split (record { low = low-bits w z (now (half_after w)) low_is; high = high-bits w z (now corrected_row) high_is })

-- ---- the quotient by 2^(w - 1), rounded down

-- The bits of z that are left, and the quotient's.
pub record Divided (w : ℕ) (z : ℤ) (e : ℕ → ℕ → Bool) : Type 0 where
  pub low : (j : ℕ) → j < w → e (half_after w) j ≡ bit_of_int z j
  pub row : (j : ℕ) → j < w → e moved_row j ≡ bit_of_int z (w - 1 + j)
  pub top : e corrected_row (w - 1) ≡ bit_of_int z (w + (w - 1))

pub quotient-only : (rows : List ℕ) (w : ℕ) → is_among rows moved_row ≡ true → Within rows (quotient w)
quotient-only rows w m = (m, (m, (m, tt)))

pub divided : (w : ℕ) (z : ℤ) (e : ℕ → ℕ → Bool) → 0 < w → Halved w z e → Divided w z (steps_on (quotient w) e)
divided w z e some h =
    let now = steps_on (quotient w) e in
    let rows : List ℕ = moved_row ∷ [] in
    let low_off = half-off w rows refl refl in
    let u = doubled-here w corrected_row moved_row (half_after w) e some (omega arith) (λ q. differ (half_after w) moved_row rows low_off refl q) in
    record {
      low = λ j l. ap (λ (f : ℕ → Bool). f j) (kept rows (quotient w) e (half_after w) (quotient-only rows w refl) low_off) ∙ h.low j l;
      row = λ j l. by j l u.first u.inner;
      top = ap (λ (f : ℕ → Bool). f (w - 1)) (kept rows (quotient w) e corrected_row (quotient-only rows w refl) refl) ∙ h.high (w - 1) (omega arith);
    }
  where
    by : (j : ℕ) → j < w → steps_on (quotient w) e moved_row 0 ≡ e (half_after w) (w - 1)
        → ((i : ℕ) → suc i < w → steps_on (quotient w) e moved_row (suc i) ≡ e corrected_row i)
        → steps_on (quotient w) e moved_row j ≡ bit_of_int z (w - 1 + j)
    by zero l first inner = let q : w - 1 + 0 ≡ w - 1 = omega arith in first ∙ h.low (w - 1) (omega arith) ∙ ap (bit_of_int z) (sym q)
    by (suc i) l first inner = let q : w - 1 + suc i ≡ w + i = omega arith in inner i l ∙ h.high i (omega arith) ∙ ap (bit_of_int z) (sym q)

-- ---- what is left below it

down-here : (row out n : ℕ) (e : ℕ → ℕ → Bool) → step_on (below (row ∷ []) (1 ∷ []) out n n) e out 0 ≡ e row n || e out 0
down-here row out n e =
    let z : 0 + n ≡ n = omega arith in
    ap (λ (k : ℕ). step_on (below (row ∷ []) (1 ∷ []) out k n) e out 0) (sym z) ∙ below-here (row ∷ []) (1 ∷ []) out 0 n e
    ∙ rw (z, fires-hit (row ∷ []) (1 ∷ []) (λ r. e r n)) (copied (e row n) (e out 0))
  where
    copied : (x y : Bool) → hit (1 ∷ []) (x ∷ []) || y ≡ x || y
    copied true y = refl
    copied false y = refl

lower-only : (rows : List ℕ) (w n : ℕ) → is_among rows more_row ≡ true → Within rows (lower w n)
unfolding lower
lower-only rows w zero m = tt
lower-only rows w (suc n) m = within-append rows (lower w n) (below (half_after w ∷ []) (1 ∷ []) more_row n n ∷ []) (lower-only rows w n m) (m, tt)

lower-here : (w n : ℕ) (e : ℕ → ℕ → Bool) → e more_row 0 ≡ false → steps_on (lower w n) e more_row 0 ≡ any_below n (e (half_after w))
unfolding lower steps_on
lower-here w zero e clear_is = clear_is
lower-here w (suc n) e clear_is =
    let e1 = steps_on (lower w n) e in
    let rows : List ℕ = more_row ∷ [] in
    let same : e1 (half_after w) ≡ e (half_after w) = kept rows (lower w n) e (half_after w) (lower-only rows w n refl) (half-off w rows refl refl) in
    ap (λ (s : ℕ → ℕ → Bool). s more_row 0) (steps_on-append (lower w n) (below (half_after w ∷ []) (1 ∷ []) more_row n n ∷ []) e)
    ∙ down-here (half_after w) more_row n e1 ∙ rw (lower-here w n e clear_is, same) (swapped (e (half_after w) n) (any_below n (e (half_after w))))
  where
    swapped : (x y : Bool) → x || y ≡ y || x
    swapped true true = refl
    swapped true false = refl
    swapped false true = refl
    swapped false false = refl

pub left-only : (rows : List ℕ) (w : ℕ) → is_among rows (last_role false) ≡ true → is_among rows more_row ≡ true → Within rows (left_over w)
unfolding left_over
left-only rows w l m = (l, (l, (m, lower-only rows w (w - 2) m)))

record Left (w : ℕ) (x : ℕ → Bool) (now : ℕ → ℕ → Bool) : Type 0 where
  last : now (last_role false) 0 ≡ last_out x (w - 1)
  more : now more_row 0 ≡ more_out x (w - 1)

left : (w : ℕ) (x : ℕ → Bool) (e : ℕ → ℕ → Bool) → 1 < w → ((j : ℕ) → j < w → e (half_after w) j ≡ x j) → Left w x (steps_on (left_over w) e)
unfolding left_over steps_on
left w x e wide is =
    let g = last_role false in
    let q = half_after w in
    let s1 = clear w g in
    let s2 = below (q ∷ []) (1 ∷ []) g (w - 2) (w - 2) in
    let s3 = clear w more_row in
    let e1 = step_on s1 e in
    let e2 = step_on s2 e1 in
    let e3 = step_on s3 e2 in
    let rows : List ℕ = g ∷ more_row ∷ [] in
    let off = half-off w rows refl refl in
    let early : (s : List Step) → Within rows s → steps_on s e q ≡ e q = λ s only. kept rows s e q only off in
    let g_off : q ≢ g = differ q g rows off refl in
    let n : w - 1 ≡ suc (w - 2) = omega arith in
    let top : e2 g 0 ≡ x (w - 2) =
    down-here q g (w - 2) e1 ∙ rw (clear-here w g e 0 (omega arith), step-row s1 e q (w - 2) g_off, is (w - 2) (omega arith)) (or_no (x (w - 2))) in
    let three : steps_on (s1 ∷ s2 ∷ s3 ∷ []) e q ≡ e q = early (s1 ∷ s2 ∷ s3 ∷ []) (refl, (refl, (refl, tt))) in
    let low : (j : ℕ) → j < w → e3 q j ≡ x j = λ j l. ap (λ (f : ℕ → Bool). f j) three ∙ is j l in
    record {
      last = ap (λ (f : ℕ → Bool). f 0) (kept (more_row ∷ []) (s3 ∷ lower w (w - 2)) e2 g (refl, lower-only (more_row ∷ []) w (w - 2) refl) refl) ∙ top ∙ ap (last_out x) (sym n);
      more = lower-here w (w - 2) e3 (clear-here w more_row e2 0 (omega arith)) ∙ any-same (w - 2) (e3 q) x (λ j l. low j (omega arith)) ∙ ap (more_out x) (sym n);
    }
  where
    or_no : (b : Bool) → b || false ≡ b
    or_no true = refl
    or_no false = refl

-- ---- rounded

pub record Rounded (mode w : ℕ) (z : ℤ) (e : ℕ → ℕ → Bool) : Type 0 where
  pub made : number w (e (rounded_row mode)) ≡ low_int w (rounded mode z (w - 1))
  pub sign : e corrected_row (w - 1) ≡ bit_of_int z (w + (w - 1))
  pub top : e moved_row (w - 1) ≡ bit_of_int z (w - 1 + (w - 1))

mode-rows : AreModeRows moved_row (last_role false) more_row
mode-rows = record {
  quotient_low = omega arith;
  last_low = omega arith;
  more_low = omega arith;
  quotient_high = omega arith;
  last_high = omega arith;
  more_high = omega arith;
  above_last = λ q. absurd (omega arith);
  above_more = λ q. absurd (omega arith);
  below = λ q. absurd (omega arith);
}

half-only : (rows : List ℕ) (w x n : ℕ) → is_among rows carry_row ≡ true → is_among rows result_row ≡ true → Within rows (half_sums w x n)
unfolding ripple
half-only rows w x zero c d = tt
half-only rows w x (suc n) c d = within-append rows (half_sums w x n) _ (half-only rows w x n c d) (d, carry (ltb (suc n) w))
  where
    carry : (more : Bool) → Within rows (cond more (above (x ∷ carry_row ∷ []) half_carries carry_row n 1 ∷ []) [])
    carry true = (c, tt)
    carry false = tt

mode-only : (rows : List ℕ) (w mode x g y : ℕ) → is_among rows carry_row ≡ true → is_among rows result_row ≡ true → Within rows (mode_steps w mode x g y)
unfolding increment
mode-only rows w mode x g y c d = (c, (c, (d, half-only rows w x w c d)))

pub rounding-only : (rows : List ℕ) (mode w : ℕ) → is_among rows (last_role false) ≡ true → is_among rows more_row ≡ true → is_among rows carry_row ≡ true → is_among rows result_row ≡ true
    → Within rows (rounding mode w)
unfolding rounding
rounding-only rows mode w l m c d = by (eqb mode 2)
  where
    by : (down : Bool) → Within rows (cond down [] (left_over w ++ mode_steps w mode moved_row (last_role false) more_row))
    by true = tt
    by false =
        within-append rows (left_over w) (mode_steps w mode moved_row (last_role false) more_row) (left-only rows w l m) (mode-only rows w mode moved_row (last_role false) more_row c d)

quotient-is : (w : ℕ) (z : ℤ) (e : ℕ → ℕ → Bool) → Divided w z e → number w (e moved_row) ≡ low_int w (int_shr z (w - 1))
quotient-is w z e d = number-same w (e moved_row) (λ i. bit_of_int z (w - 1 + i)) d.row ∙ number-shr w z (w - 1)

pub rounded-on : (mode w : ℕ) (z : ℤ) (e : ℕ → ℕ → Bool) → 1 < w → Divided w z e → Rounded mode w z (steps_on (rounding mode w) e)
unfolding rounding steps_on
rounded-on mode w z e wide d = ⊎_elim
    (λ (is : mode ≡ 2). rw is (record {
      made = quotient-is w z e d ∙ ap (low_int w) (sym (plus-zero (int_shr z (w - 1))));
      sign = d.top;
      top = d.row (w - 1) (omega arith);
    }))
    (λ (other : mode ≢ 2). rw (ne_eqb mode 2 other, steps_on-append (left_over w) (mode_steps w mode moved_row (last_role false) more_row) e) (up other))
    (cases_eq mode 2)
  where
    e1 : ℕ → ℕ → Bool
    e1 = steps_on (left_over w) e

    now : ℕ → ℕ → Bool
    now = steps_on (mode_steps w mode moved_row (last_role false) more_row) e1

    rows : List ℕ
    rows = last_role false ∷ more_row ∷ []

    stays : (r : ℕ) → is_among rows r ≡ false → e1 r ≡ e r
    stays r off = kept rows (left_over w) e r (left-only rows w refl refl) off

    up : mode ≢ 2 → Rounded mode w z now
    up other =
        let l = left w (bit_of_int z) e wide d.low in
        let i = mode-added w mode moved_row (last_role false) more_row e1 (omega arith) mode-rows in
        let row_is : rounded_row mode ≡ result_row = rw (ne_eqb mode 2 other) refl in
        let q : number w (e1 moved_row) ≡ low_int w (int_shr z (w - 1)) = ap (number w) (stays moved_row refl) ∙ quotient-is w z e d in
        let z0 : w - 1 + 0 ≡ w - 1 = omega arith in
        let odd : e1 moved_row 0 ≡ bit_of_int z (w - 1) = ap (λ (f : ℕ → Bool). f 0) (stays moved_row refl) ∙ d.row 0 (omega arith) ∙ ap (bit_of_int z) z0 in
        record {
          made = ap (λ (r : ℕ). number w (now r)) row_is
              ∙ rounds w mode z (w - 1) (number w (now result_row)) (number w (e1 moved_row)) (e1 moved_row 0) (e1 (last_role false) 0) (e1 more_row 0) q i.made odd l.last l.more;
          sign = i.kept corrected_row (w - 1) (omega arith) (omega arith) ∙ ap (λ (f : ℕ → Bool). f (w - 1)) (stays corrected_row refl) ∙ d.top;
          top = i.kept moved_row (w - 1) (omega arith) (omega arith) ∙ ap (λ (f : ℕ → Bool). f (w - 1)) (stays moved_row refl) ∙ d.row (w - 1) (omega arith);
        }
