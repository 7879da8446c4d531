-- What the scalar's steps make of one element.
use Rattle.std.proofs.Common.{◌≡◌, ◌≢◌, ℕ, ◌-◌, ◌<◌, Bool, true, false, cond, ◌&&◌, ltb, [], ◌∷◌, refl, ◌∙◌, arith, inl}
use Rattle.std.proofs.lemmas.Bool.{lt-ltb, le-leb, ltb-true, and_parts}
use Rattle.bit_laws.specs.Numbers.{bit_of}
use Rattle.micro_ir.specs.Steps.{step_on, steps_on, AllFit}
use Rattle.micro_ir.specs.WorkRows.{scalar_row}
use Rattle.micro_ir.proofs.OneElement.{step-row, clear-fits}
use Rattle.micro_ir.proofs.Folds.{level-whole}
use Rattle.micro_ir.specs.Pieces.{splat}

-- the scalar row holds the scalar's bits, and every other row stays
pub splat-here : (w x : ℕ) (e : ℕ → ℕ → Bool) (j : ℕ) → j < w → steps_on (splat w x) e scalar_row j ≡ bit_of x j
unfolding splat steps_on step_on
splat-here w x e j inside =
    let z : j - 0 ≡ j = omega arith in
    rw (le-leb 0 j (omega arith), z, lt-ltb j w inside) (splatted (bit_of x j))
  where
    splatted : (b : Bool) → cond (true && b && true) true (cond (true && true && true) false (e scalar_row j)) ≡ b
    splatted true = refl
    splatted false = refl

pub splat-row : (w x : ℕ) (e : ℕ → ℕ → Bool) (r j : ℕ) → r ≢ scalar_row → steps_on (splat w x) e r j ≡ e r j
unfolding splat steps_on
splat-row w x e r j other = step-row _ _ r j other ∙ step-row _ e r j other

pub splat-fits : (w x : ℕ) → AllFit w (splat w x)
unfolding splat
splat-fits w x = (
  clear-fits w scalar_row,
  (record { inside = λ j inside. (let l : j < w = ltb-true j w (and_parts (ltb j w) (bit_of x j) inside).0 in (l, omega arith, omega arith)); folds = inl (level-whole [] (0 ∷ []) refl) }, tt),
)
