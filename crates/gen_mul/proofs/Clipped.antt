-- A rounded number and the flag that it is too large, on one element; and the whole list before its commit.
use Rattle.std.proofs.Common.{◌≡◌, ◌≢◌, ℕ, ◌+◌, ◌-◌, ◌*◌, ◌^◌, ◌<◌, ◌≤◌, ◌*ℤ◌, Bool, true, false, cond, not, eqb, ◌&&◌, ◌||◌, zero, suc, List, [], ◌∷◌, ◌++◌, refl, sym, ◌∙◌, ap, arith, ⊎_elim}
use Rattle.std.proofs.lemmas.Bool.{cases_lt, lt-ltb, le-ltb, le-leb}
use Rattle.std.proofs.Math.Nat.{pow-suc}
use Rattle.bit_laws.specs.Numbers.{number}
use Rattle.bit_laws.specs.Rounding.{bit_of_int, low_int, rounded}
use Rattle.bit_laws.specs.Signed.{signed}
use Rattle.bit_laws.proofs.Numbers.{number-lt, number-same}
use Rattle.micro_ir.specs.Pieces.{ranged, above, clear}
use Rattle.micro_ir.specs.Steps.{moved, step_on, steps_on}
use Rattle.micro_ir.specs.WorkRows.{result_row}
use Rattle.micro_ir.proofs.Effects.{downs-here}
use Rattle.micro_ir.proofs.OneElement.{hit, fires-hit, step-row, clear-here, above-here, above-else, step-here, step-else}
use Rattle.micro_ir.proofs.StepLists.{steps_on-append}
use Rattle.gen_shift.specs.Rows.{moved_row, is_among}
use Rattle.gen_shift.proofs.Stays.{Within, within-append, within-downs}
use Rattle.row_sums.proofs.Kept.{kept, within-more}
use Rattle.gen_mul.specs.Lists.{corrected_row, multiplying, both_corrections}
use Rattle.gen_mul.specs.Fractions.{overflow_row, clipped_row, quotient, rounding, rounded_row, flagging, low_range, clipping, fraction_steps, smul_value, smul_clips}
use Rattle.gen_mul.proofs.Products.{product_works, product-only}
use Rattle.gen_mul.proofs.Fractional.{halved, both-only, divided, quotient-only, rounded-on, rounding-only}
use Rattle.gen_mul.proofs.Saturation.{told}

-- ---- the flag

flag-only : (rows : List ℕ) (w : ℕ) → is_among rows overflow_row ≡ true → Within rows (flagging w)
unfolding flagging
flag-only rows w h = (h, (h, within-downs rows overflow_row (w - 1) h))

flag-on : (w : ℕ) (e : ℕ → ℕ → Bool) → 0 < w → (i : ℕ) → i < w → steps_on (flagging w) e overflow_row i ≡ not (e corrected_row (w - 1)) && e moved_row (w - 1)
unfolding flagging steps_on
flag-on w e some i inside =
    let e1 = step_on (clear w overflow_row) e in
    let one = above (corrected_row ∷ moved_row ∷ []) (2 ∷ []) overflow_row (w - 1) 0 in
    let e2 = step_on one e1 in
    let z : w - 1 + 0 ≡ w - 1 = omega arith in
    let here : e2 overflow_row (w - 1 + 0) ≡ not (e corrected_row (w - 1)) && e moved_row (w - 1) =
    above-here (corrected_row ∷ moved_row ∷ []) (2 ∷ []) overflow_row (w - 1) 0 e1
    ∙ rw (
      z,
      fires-hit (corrected_row ∷ moved_row ∷ []) (2 ∷ []) (λ r. e1 r (w - 1)),
      clear-here w overflow_row e (w - 1) (omega arith),
      step-row (clear w overflow_row) e corrected_row (w - 1) (omega arith),
      step-row (clear w overflow_row) e moved_row (w - 1) (omega arith),
    ) (second (e corrected_row (w - 1)) (e moved_row (w - 1))) in
    let top : e2 overflow_row (w - 1) ≡ not (e corrected_row (w - 1)) && e moved_row (w - 1) = ap (λ (n : ℕ). e2 overflow_row n) (sym z) ∙ here in
    downs-here overflow_row (w - 1) e2
    (λ i l. above-else (corrected_row ∷ moved_row ∷ []) (2 ∷ []) overflow_row (w - 1) 0 e1 overflow_row i (omega arith) ∙ clear-here w overflow_row e i (omega arith)) i (omega arith)
    ∙ top
  where
    second : (x y : Bool) → hit (2 ∷ []) (x ∷ y ∷ []) || false ≡ not x && y
    second true true = refl
    second true false = refl
    second false true = refl
    second false false = refl

-- ---- the clipped number

clip-only : (rows : List ℕ) (w row : ℕ) → is_among rows clipped_row ≡ true → Within rows (clipping w row)
unfolding clipping
clip-only rows w row h = (h, (h, (h, tt)))

either : (x y : Bool) → hit (1 ∷ 2 ∷ 3 ∷ []) (x ∷ y ∷ []) || false ≡ x || y
either true true = refl
either true false = refl
either false true = refl
either false false = refl

first-only : (x y : Bool) → hit (1 ∷ []) (x ∷ y ∷ []) || false ≡ x && not y
first-only true true = refl
first-only true false = refl
first-only false true = refl
first-only false false = refl

-- its bits, by those of the row and by the flag
record Clip (w row : ℕ) (v : Bool) (e now : ℕ → ℕ → Bool) : Type 0 where
  low : (i : ℕ) → i + 1 < w → now clipped_row i ≡ e row i || v
  top : now clipped_row (w - 1) ≡ e row (w - 1) && not v

clip-on : (w row : ℕ) (v : Bool) (e : ℕ → ℕ → Bool) → 0 < w → row ≢ clipped_row → ((i : ℕ) → i < w → e overflow_row i ≡ v) → Clip w row v e (steps_on (clipping w row) e)
unfolding clipping steps_on
clip-on w row v e some other flag =
    let inputs : List ℕ = row ∷ overflow_row ∷ [] in
    let s1 = clear w clipped_row in
    let s2 = ranged inputs (1 ∷ 2 ∷ 3 ∷ []) clipped_row (low_range w) in
    let s3 = above inputs (1 ∷ []) clipped_row (w - 1) 0 in
    let e1 = step_on s1 e in
    let e2 = step_on s2 e1 in
    let r1 : (i : ℕ) → e1 row i ≡ e row i = λ i. step-row s1 e row i other in
    let f1 : (i : ℕ) → i < w → e1 overflow_row i ≡ v = λ i l. step-row s1 e overflow_row i (omega arith) ∙ flag i l in
    let r2 : (i : ℕ) → e2 row i ≡ e row i = λ i. step-row s2 e1 row i other ∙ r1 i in
    let f2 : (i : ℕ) → i < w → e2 overflow_row i ≡ v = λ i l. step-row s2 e1 overflow_row i (omega arith) ∙ f1 i l in
    let y : w - 1 + 0 ≡ w - 1 = omega arith in
    let z : w - 1 - 0 ≡ w - 1 = omega arith in
    let past : moved s2 (w - 1) ≡ false = rw (z, le-ltb (w - 1) (w - 1) (omega arith), le-leb 0 (w - 1) (omega arith)) refl in
    let none : e2 clipped_row (w - 1) ≡ false = step-else s2 e1 clipped_row (w - 1) past ∙ clear-here w clipped_row e (w - 1) (omega arith) in
    let here : step_on s3 e2 clipped_row (w - 1 + 0) ≡ e row (w - 1) && not v =
    above-here inputs (1 ∷ []) clipped_row (w - 1) 0 e2 ∙ rw (y, fires-hit inputs (1 ∷ []) (λ r. e2 r (w - 1)), none, r2 (w - 1), f2 (w - 1) (omega arith)) (first-only (e row (w - 1)) v) in
    record {
      low = λ i l. above-else inputs (1 ∷ []) clipped_row (w - 1) 0 e2 clipped_row i (omega arith)
          ∙ (let x : i - 0 ≡ i = omega arith in
          let at : moved s2 i ≡ true = rw (x, lt-ltb i (w - 1) (omega arith), le-leb 0 i (omega arith)) refl in
          step-here s2 e1 i refl at ∙ rw (x, fires-hit inputs (1 ∷ 2 ∷ 3 ∷ []) (λ r. e1 r i), clear-here w clipped_row e i (omega arith), r1 i, f1 i (omega arith)) (either (e row i) v));
      top = ap (λ (n : ℕ). step_on s3 e2 clipped_row n) (sym y) ∙ here;
    }

-- its number: that of the row, or the largest one
ones : (n : ℕ) → number n (λ i. true) + 1 ≡ 2 ^ n
ones zero = refl
ones (suc n) = let p : 2 ^ suc n ≡ 2 ^ n * 2 = pow-suc 2 n in omega (arith, ones n, p)

clip-number : (w row : ℕ) (v : Bool) (e now : ℕ → ℕ → Bool) → 0 < w → Clip w row v e now → number w (now clipped_row) ≡ cond v (2 ^ (w - 1) - 1) (number w (e row))
clip-number zero row v e now some c = absurd (omega arith)
clip-number (suc n) row true e now some c =
    let z : suc n - 1 ≡ n = omega arith in
    let top : now clipped_row n ≡ e row n && not true = rw z at c.top in
    let low : number n (now clipped_row) ≡ number n (λ i. true) = number-same n (now clipped_row) (λ i. true) (λ i l. c.low i (omega arith) ∙ or_true (e row i)) in
    let all = ones n in
    rw (z, low, top, and_false (e row n)) (omega (arith, all))
  where
    or_true : (x : Bool) → x || true ≡ true
    or_true true = refl
    or_true false = refl

    and_false : (x : Bool) → x && false ≡ false
    and_false true = refl
    and_false false = refl
clip-number (suc n) row false e now some c =
    let z : suc n - 1 ≡ n = omega arith in
    let top : now clipped_row n ≡ e row n && not false = rw z at c.top in
    number-same (suc n) (now clipped_row) (e row)
    (λ i l. ⊎_elim (λ (m : i < n). c.low i (omega arith) ∙ or_no (e row i)) (λ (m : n ≤ i). let q : i ≡ n = omega arith in rw q (top ∙ and_true (e row n))) (cases_lt i n))
  where
    or_no : (x : Bool) → x || false ≡ x
    or_no true = refl
    or_no false = refl

    and_true : (x : Bool) → x && true ≡ x
    and_true true = refl
    and_true false = refl

-- ---- the list before its commit

-- the rows that it writes
abbrev pub fraction_works : List ℕ
fraction_works = product_works ++ (36 ∷ 40 ∷ 46 ∷ 48 ∷ 50 ∷ 51 ∷ [])

pub fraction-only : (mode w a b : ℕ) → Within fraction_works (fraction_steps mode w a b)
unfolding fraction_steps
fraction-only mode w a b =
    let row = rounded_row mode in
    within-append fraction_works (multiplying w a b ++ both_corrections w a b) (quotient w ++ (rounding mode w ++ (flagging w ++ clipping w row)))
    (within-more product_works (36 ∷ 40 ∷ 46 ∷ 48 ∷ 50 ∷ 51 ∷ []) (multiplying w a b ++ both_corrections w a b)
    (within-append product_works (multiplying w a b) (both_corrections w a b) (product-only w a b) (both-only product_works w a b refl refl refl refl)))
    (within-append fraction_works (quotient w) (rounding mode w ++ (flagging w ++ clipping w row)) (quotient-only fraction_works w refl)
    (within-append fraction_works (rounding mode w) (flagging w ++ clipping w row) (rounding-only fraction_works mode w refl refl refl refl)
    (within-append fraction_works (flagging w) (clipping w row) (flag-only fraction_works w refl) (clip-only fraction_works w row refl))))

-- What it leaves: the value, and the flag in every bit.
pub record Fraction (mode w a b : ℕ) (e now : ℕ → ℕ → Bool) : Type 0 where
  pub made : number w (now clipped_row) ≡ smul_value mode w (number w (e a)) (number w (e b))
  pub flag : (i : ℕ) → i < w → now overflow_row i ≡ smul_clips mode w (number w (e a)) (number w (e b))

row-apart : (mode : ℕ) → rounded_row mode ≢ clipped_row
row-apart mode = by (eqb mode 2)
  where
    by : (down : Bool) → cond down moved_row result_row ≢ clipped_row
    by true = λ q. absurd (omega arith)
    by false = λ q. absurd (omega arith)

row-off : (mode : ℕ) → is_among (overflow_row ∷ []) (rounded_row mode) ≡ false
row-off mode = by (eqb mode 2)
  where
    by : (down : Bool) → is_among (overflow_row ∷ []) (cond down moved_row result_row) ≡ false
    by true = refl
    by false = refl

pub fraction-on : (mode w a b : ℕ) (e : ℕ → ℕ → Bool) → 1 < w → is_among product_works a ≡ false → is_among product_works b ≡ false
    → Fraction mode w a b e (steps_on (fraction_steps mode w a b) e)
unfolding fraction_steps
fraction-on mode w a b e wide a_off b_off =
    let x = number w (e a) in
    let y = number w (e b) in
    let z = signed w (number w (e a)) *ℤ signed w (number w (e b)) in
    let row = rounded_row mode in
    let p = multiplying w a b ++ both_corrections w a b in
    let q = quotient w in
    let r = rounding mode w in
    let f = flagging w in
    let c = clipping w (rounded_row mode) in
    let e1 = steps_on p e in
    let e2 = steps_on q e1 in
    let e3 = steps_on r e2 in
    let e4 = steps_on f e3 in
    let now = steps_on c e4 in
    let split : steps_on (p ++ (q ++ (r ++ (f ++ c)))) e ≡ now =
    steps_on-append p (q ++ (r ++ (f ++ c))) e ∙ steps_on-append q (r ++ (f ++ c)) e1 ∙ steps_on-append r (f ++ c) e2 ∙ steps_on-append f c e3 in
    let h = halved w a b e (omega arith) a_off b_off in
    let d = divided w z e1 (omega arith) h in
    let s = rounded-on mode w z e2 wide d in
    let t = told mode w (number w (e a)) (number w (e b)) (omega arith) (number-lt w (e a)) (number-lt w (e b)) in
    let v : Bool = not (bit_of_int z (w + (w - 1))) && bit_of_int z (w - 1 + (w - 1)) in
    let v4 : (i : ℕ) → i < w → e4 overflow_row i ≡ v = λ i l. flag-on w e3 (omega arith) i l ∙ rw (s.sign, s.top) refl in
    let row4 : e4 row ≡ e3 row = kept (overflow_row ∷ []) f e3 row (flag-only (overflow_row ∷ []) w refl) (row-off mode) in
    let k = clip-on w row v e4 (omega arith) (row-apart mode) v4 in
    let n = clip-number w row v e4 now (omega arith) k in
    let number_is : number w (e4 row) ≡ low_int w (rounded mode z (w - 1)) = ap (number w) row4 ∙ s.made in
    rw split (record {
      made = n ∙ ap (cond v (2 ^ (w - 1) - 1)) number_is ∙ t.value;
      flag = λ i l. ap (λ (g : ℕ → Bool). g i) (kept (clipped_row ∷ []) c e4 overflow_row (clip-only (clipped_row ∷ []) w row refl) refl) ∙ v4 i l ∙ t.flag;
    })
