-- Rows moved by one place, on one element.
use Rattle.std.proofs.Common.{◌≡◌, ◌≢◌, ℕ, ◌+◌, ◌-◌, ◌*◌, ◌^◌, ◌<◌, Bool, true, false, cond, [], ◌∷◌, zero, suc, refl, ◌∙◌, arith}
use Rattle.std.proofs.Math.Nat.{pow-suc}
use Rattle.std.proofs.lemmas.Bool.{lt-ltb, le-ltb, le-leb, lt-leb}
use Rattle.bit_laws.specs.Numbers.{number}
use Rattle.bit_laws.proofs.Numbers.{number-same}
use Rattle.micro_ir.specs.Steps.{step_on, steps_on}
use Rattle.micro_ir.specs.Pieces.{clear}
use Rattle.micro_ir.proofs.OneElement.{step-row, clear-here, above-else, below-else}
use Rattle.micro_ir.proofs.Effects.{above-copy, below-copy}
use Rattle.gen_shift.specs.Lists.{slide}
use Rattle.gen_shift.proofs.Single.{slide-up, slide-down}
use Rattle.row_sums.specs.Sums.{shifted_once, halved, doubled}

-- row to is row from moved down by one place, with top above
pub record Down (w : ℕ) (from : ℕ → Bool) (top : Bool) (to : ℕ → Bool) : Type 0 where
  pub inner : (i : ℕ) → i + 1 < w → to i ≡ from (i + 1)
  pub last : to (w - 1) ≡ top

pub halved-here : (w from to other j times : ℕ) (e : ℕ → ℕ → Bool) → 0 < w → j + times ≡ w - 1 → from ≢ to → other ≢ to
    → Down w (e from) (e other j) (steps_on (halved w from to other j times) e to)
unfolding steps_on
halved-here w from to other j times e pos at f o =
    let e1 = step_on (clear w to) e in
    let e2 = step_on (slide w false from to 1) e1 in
    let off : (i : ℕ) → i < w → e1 to i ≡ false = λ i l. clear-here w to e i l in
    let top_off : e2 to (j + times) ≡ false =
    slide-down w from to 1 e1 (j + times) (off (j + times) (omega arith)) ∙ rw (le-ltb (j + times + 1) w (omega arith)) refl in
    record {
      inner = λ i l. above-else (other ∷ []) (1 ∷ []) to j times e2 to i (omega arith)
          ∙ slide-down w from to 1 e1 i (off i (omega arith)) ∙ rw (lt-ltb (i + 1) w l) (step-row (clear w to) e from (i + 1) f);
      last = let here = above-copy other to j times e2 top_off in
          (rw at at here) ∙ step-row (slide w false from to 1) e1 other j o ∙ step-row (clear w to) e other j o;
    }

-- row to is row from moved up by one place, with bottom below
pub record Up (w : ℕ) (from : ℕ → Bool) (bottom : Bool) (to : ℕ → Bool) : Type 0 where
  pub inner : (i : ℕ) → suc i < w → to (suc i) ≡ from i
  pub first : to 0 ≡ bottom

-- the same without the bit below
pub raised-here : (w from to : ℕ) (e : ℕ → ℕ → Bool) → 0 < w → from ≢ to → Up w (e from) false (steps_on (shifted_once w true from to) e to)
unfolding steps_on
raised-here w from to e pos f =
    let e1 = step_on (clear w to) e in record {
      inner = λ i l. let z : suc i - 1 ≡ i = omega arith in
          slide-up w from to 1 e1 (suc i) l (clear-here w to e (suc i) l) ∙ rw (le-leb 1 (suc i) (omega arith), z) (step-row (clear w to) e from i f);
      first = slide-up w from to 1 e1 0 pos (clear-here w to e 0 pos) ∙ rw (lt-leb 1 0 (omega arith)) refl;
    }

pub doubled-here : (w from to other : ℕ) (e : ℕ → ℕ → Bool) → 0 < w → from ≢ to → other ≢ to
    → Up w (e from) (e other (w - 1)) (steps_on (doubled w from to other) e to)
unfolding steps_on
doubled-here w from to other e pos f o =
    let e1 = step_on (clear w to) e in
    let e2 = step_on (slide w true from to 1) e1 in
    let p = raised-here w from to e pos f in
    record {
      inner = λ i l. below-else (other ∷ []) (1 ∷ []) to (w - 1) (w - 1) e2 to (suc i) (omega arith) ∙ p.inner i l;
      first = let z : 0 + (w - 1) ≡ w - 1 = omega arith in let here = below-copy other to 0 (w - 1) e2 p.first in
          (rw z at here) ∙ step-row (slide w true from to 1) e1 other (w - 1) o ∙ step-row (clear w to) e other (w - 1) o;
    }

-- ---- their numbers

-- the number without its lowest bit
pub number-low : (n : ℕ) (f : ℕ → Bool) → number (suc n) f ≡ cond (f 0) 1 0 + 2 * number n (λ i. f (suc i))
number-low zero f = omega arith
number-low (suc n) f = rw (number-low n f, pow-suc 2 n) (cases (f (suc n)) (cond (f 0) 1 0) (number n (λ i. f (suc i))) (2 ^ n))
  where
    cases : (b : Bool) (z m p : ℕ) → (z + 2 * m) + cond b (p * 2) 0 ≡ z + 2 * (m + cond b p 0)
    cases true z m p = omega arith
    cases false z m p = omega arith

pub down-number : (w : ℕ) (from : ℕ → Bool) (top : Bool) (to : ℕ → Bool) → 0 < w → Down w from top to
    → 2 * number w to + cond (from 0) 1 0 ≡ number w from + cond top (2 ^ w) 0
down-number zero from top to pos d = absurd (omega arith)
down-number (suc m) from top to pos d =
    let z : suc m - 1 ≡ m = omega arith in
    let last : to m ≡ top = rw z at d.last in
    let same : number m to ≡ number m (λ i. from (suc i)) = number-same m to (λ i. from (suc i)) (λ i l. let y : i + 1 ≡ suc i = omega arith in d.inner i (omega arith) ∙ rw y refl) in
    rw (number-low m from, pow-suc 2 m, last, same) (cases top (cond (from 0) 1 0) (number m (λ i. from (suc i))) (2 ^ m))
  where
    cases : (b : Bool) (z n p : ℕ) → 2 * (n + cond b p 0) + z ≡ (z + 2 * n) + cond b (p * 2) 0
    cases true z n p = omega arith
    cases false z n p = omega arith

pub up-number : (w : ℕ) (from : ℕ → Bool) (bottom : Bool) (to : ℕ → Bool) → 0 < w → Up w from bottom to
    → number w to + cond (from (w - 1)) (2 ^ w) 0 ≡ 2 * number w from + cond bottom 1 0
up-number zero from bottom to pos u = absurd (omega arith)
up-number (suc m) from bottom to pos u =
    let z : suc m - 1 ≡ m = omega arith in
    let same : number m (λ i. to (suc i)) ≡ number m from = number-same m (λ i. to (suc i)) from (λ i l. u.inner i (omega arith)) in
    rw (number-low m to, u.first, same, z, pow-suc 2 m) (cases (from m) (cond bottom 1 0) (number m from) (2 ^ m))
  where
    cases : (b : Bool) (z n p : ℕ) → (z + 2 * n) + cond b (p * 2) 0 ≡ 2 * (n + cond b p 0) + z
    cases true z n p = omega arith
    cases false z n p = omega arith
