-- Sums and differences without a sign that are clipped, with the row that tells it.
use Rattle.std.proofs.Common.{◌≡◌, ℕ, zero, suc, ◌+◌, ◌-◌, ◌^◌, ◌<◌, Bool, true, false, cond, not, pos, ◌+ℤ◌, ◌-ℤ◌, ◌||◌, List, [], ◌∷◌, ◌++◌, refl, sym, ◌∙◌, ap, arith}
use Rattle.std.proofs.lemmas.Int.{ints}
use Rattle.bit_laws.specs.Numbers.{number}
use Rattle.bit_laws.specs.Rounding.{low_int, clipped_unsigned, clips_unsigned}
use Rattle.bit_laws.proofs.Numbers.{number-lt, number-same}
use Rattle.bit_laws.proofs.Ints.{with_sign}
use Rattle.micro_ir.specs.Steps.{step_on, steps_on}
use Rattle.micro_ir.specs.WorkRows.{carry_row, result_row, broadcast_row, truth_row}
use Rattle.micro_ir.specs.Pieces.{everywhere, clear, downs}
use Rattle.micro_ir.proofs.Effects.{downs-here}
use Rattle.micro_ir.proofs.OneElement.{hit, fires-hit, step-row, clear-here, everywhere-here}
use Rattle.micro_ir.proofs.StepLists.{steps_on-append}
use Rattle.gen_arith.specs.Recipes.{most_on, borrow_on}
use Rattle.gen_arith.proofs.Rows.{finds, carried}
use Rattle.gen_arith.proofs.Numbers.{adder}
use Rattle.gen_shift.specs.Rows.{is_among}
use Rattle.gen_shift.proofs.Stays.{Within, within-append, within-downs}
use Rattle.row_sums.specs.Sums.{total_row}
use Rattle.row_sums.proofs.Kept.{kept}
use Rattle.gen_fixed.specs.Lists.{overflow_row, carries_of, beyond, bound_on, saturating_unsigned}
use Rattle.gen_fixed.specs.Kinds.{exact}
use Rattle.gen_fixed.proofs.Operands.{total_rows}
use Rattle.gen_fixed.proofs.Totals.{total_bits, beyond_bit, beyond-only, beyond-on, difference-is}
use Rattle.gen_fixed.proofs.Bounds.{none-number, all-number, bounded-above, bounded-below}

-- the rows that these lists write
abbrev pub saturating_rows : List ℕ
saturating_rows = carry_row ∷ result_row ∷ broadcast_row ∷ total_row ∷ truth_row ∷ overflow_row ∷ []

-- What a list leaves before the flag is looked for: the clipped number, and in each bit of a row whether it was clipped.
pub record Saturated (w flag value : ℕ) (clip : Bool) (now : ℕ → ℕ → Bool) : Type 0 where
  pub made : number w (now result_row) ≡ value
  pub told : (i : ℕ) → i < w → now flag i ≡ clip

or_no : (b : Bool) → b || false ≡ b
or_no true = refl
or_no false = refl

pub as_found : (b : Bool) → cond b true false ≡ b
as_found true = refl
as_found false = refl

-- ---- without signs

pub unsigned-only : (rows : List ℕ) (sub : Bool) (w a b : ℕ) → is_among rows carry_row ≡ true → is_among rows total_row ≡ true → is_among rows truth_row ≡ true → is_among rows result_row ≡ true
    → Within rows (saturating_unsigned sub w a b)
unfolding saturating_unsigned
unsigned-only rows sub w a b c t k d =
    within-append rows (beyond (carries_of sub) (carries_of sub) w a b) _ (beyond-only rows (carries_of sub) (carries_of sub) w a b c t k)
    (within-append rows (downs truth_row (w - 1)) _ (within-downs rows truth_row (w - 1) k) (d, (d, tt)))

-- the rows of the list, by the digits and the bit beyond
unsigned-bits : (sub : Bool) (w a b : ℕ) (e : ℕ → ℕ → Bool) → is_among total_rows a ≡ false → is_among total_rows b ≡ false → 0 < w
    → (let k = beyond_bit (carries_of sub) (carries_of sub) w (e a) (e b) in
    Saturated w truth_row (number w (λ i. hit (bound_on sub) (total_bits (carries_of sub) (e a) (e b) i ∷ k ∷ []))) k (steps_on (saturating_unsigned sub w a b) e))
unfolding steps_on saturating_unsigned
unsigned-bits sub w a b e a_off b_off some =
    let first = beyond (carries_of sub) (carries_of sub) w a b in
    let spread = downs truth_row (w - 1) in
    let c = clear w result_row in
    let d = everywhere w (total_row ∷ truth_row ∷ []) (bound_on sub) result_row true in
    let k = beyond_bit (carries_of sub) (carries_of sub) w (e a) (e b) in
    let e1 = steps_on first e in
    let e2 = steps_on spread e1 in
    let e3 = step_on c e2 in
    let t = beyond-on (carries_of sub) (carries_of sub) w a b e a_off b_off some in
    let one : List ℕ = truth_row ∷ [] in
    let k3 : (i : ℕ) → i < w → e3 truth_row i ≡ k = λ i l. step-row c e2 truth_row i (omega arith) ∙ downs-here truth_row (w - 1) e1 (λ i m. t.low i m) i (omega arith) ∙ t.top in
    let t3 : (i : ℕ) → i < w → e3 total_row i ≡ total_bits (carries_of sub) (e a) (e b) i =
    λ i l. step-row c e2 total_row i (omega arith) ∙ (λ n. kept one spread e1 total_row (within-downs one truth_row (w - 1) refl) refl n i) ∙ t.digits i l in
    rw (steps_on-append first (spread ++ (c ∷ d ∷ [])) e, steps_on-append spread (c ∷ d ∷ []) e1) (record {
      made = number-same w (step_on d e3 result_row) (λ i. hit (bound_on sub) (total_bits (carries_of sub) (e a) (e b) i ∷ k ∷ [])) (λ i l.
          everywhere-here w (total_row ∷ truth_row ∷ []) (bound_on sub) result_row true e3 i l
          ∙ rw (clear-here w result_row e2 i l, fires-hit (total_row ∷ truth_row ∷ []) (bound_on sub) (λ r. e3 r i), t3 i l, k3 i l) (as_found (hit (bound_on sub) (total_bits (carries_of sub) (e a) (e b) i ∷ k ∷ []))));
      told = λ i l. step-row d e3 truth_row i (omega arith) ∙ k3 i l;
    })

-- where there is a bit beyond, a sum is all ones and a difference all zeros
pub bound-found : (sub t k : Bool) → hit (bound_on sub) (t ∷ k ∷ []) ≡ cond k (not sub) t
bound-found false true true = refl
bound-found false true false = refl
bound-found false false true = refl
bound-found false false false = refl
bound-found true true true = refl
bound-found true true false = refl
bound-found true false true = refl
bound-found true false false = refl

pub picked : (w : ℕ) (k c : Bool) (t : ℕ → Bool) → number w (λ i. cond k c (t i)) ≡ cond k (number w (λ i. c)) (number w t)
picked w true c t = refl
picked w false c t = refl

-- the numbers that they make
record Ranged (sub : Bool) (w : ℕ) (x y : ℕ → Bool) (k : Bool) : Type 0 where
  value : cond k (number w (λ i. not sub)) (number w (total_bits (carries_of sub) x y)) ≡ low_int w (clipped_unsigned w (exact false sub w (number w x) (number w y)))
  clip : k ≡ clips_unsigned w (exact false sub w (number w x) (number w y))

sum-ranged : (w : ℕ) (x y : ℕ → Bool) (k : Bool) → carried most_on false x y w ≡ k → Ranged false w x y k
sum-ranged w x y k is =
    let t = number w (total_bits most_on x y) in
    let s0 = adder w x y false in
    let s : t + cond k (2 ^ w) 0 ≡ number w x + number w y = rw (sym is) (omega (arith, s0)) in
    let z : pos (number w x) +ℤ pos (number w y) ≡ pos (number w x + number w y) = omega (arith, ints) in
    let b = bounded-above w (number w x + number w y) t k (number-lt w (total_bits most_on x y))
    (λ q. let s1 = rw q at s in omega arith) (λ q. let s1 = rw q at s in omega arith) in
    record { value = rw (all-number w) b.value ∙ ap (λ z. low_int w (clipped_unsigned w z)) (sym z); clip = b.clip ∙ ap (clips_unsigned w) (sym z) }

difference-ranged : (w : ℕ) (x y : ℕ → Bool) (k : Bool) → carried borrow_on false x y w ≡ k → Ranged true w x y k
difference-ranged w x y k is =
    let b = bounded-below w (number w (total_bits borrow_on x y)) k (number-lt w (total_bits borrow_on x y)) in
    let z : pos (number w x) -ℤ pos (number w y) ≡ with_sign w (total_bits borrow_on x y) k = difference-is w x y ∙ ap (with_sign w (total_bits borrow_on x y)) is in
    record { value = rw (none-number w) b.value ∙ ap (λ z. low_int w (clipped_unsigned w z)) (sym z); clip = b.clip ∙ ap (clips_unsigned w) (sym z) }

ranged-is : (sub : Bool) (w : ℕ) (x y : ℕ → Bool) → Ranged sub w x y (carried (carries_of sub) false x y w)
ranged-is false w x y = sum-ranged w x y (carried most_on false x y w) refl
ranged-is true w x y = difference-ranged w x y (carried borrow_on false x y w) refl

pub unsigned-on : (sub : Bool) (w a b : ℕ) (e : ℕ → ℕ → Bool) → is_among total_rows a ≡ false → is_among total_rows b ≡ false → 0 < w
    → (let z = exact false sub w (number w (e a)) (number w (e b)) in
    Saturated w truth_row (low_int w (clipped_unsigned w z)) (clips_unsigned w z) (steps_on (saturating_unsigned sub w a b) e))
unsigned-on sub zero a b e a_off b_off some = absurd (omega arith)
unsigned-on sub (suc n) a b e a_off b_off some =
    let w = suc n in
    let top : suc n - 1 ≡ n = omega arith in
    let s = unsigned-bits sub w a b e a_off b_off some in
    let x = e a in
    let y = e b in
    let t = total_bits (carries_of sub) x y in
    let k0 = beyond_bit (carries_of sub) (carries_of sub) w x y in
    let k = carried (carries_of sub) false x y w in
    let same : k0 ≡ k = ap (λ m. finds (carries_of sub) (carried (carries_of sub) false x y m) (x m) (y m)) top in
    let r = ranged-is sub w x y in
    record {
      made = s.made ∙ number-same w (λ i. hit (bound_on sub) (t i ∷ k0 ∷ [])) (λ i. cond k (not sub) (t i)) (λ i l. bound-found sub (t i) k0 ∙ ap (λ k. cond k (not sub) (t i)) same)
          ∙ picked w k (not sub) t ∙ r.value;
      told = λ i l. s.told i l ∙ same ∙ r.clip;
    }
