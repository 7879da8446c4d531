-- What a rounding mode adds.
use Rattle.std.proofs.Common.{◌≡◌, ◌≢◌, ℕ, zero, suc, ◌+◌, ◌<◌, Bool, true, false, not, ◌||◌, ◌&&◌, [], ◌∷◌, map, length, refl, ap, ◌∙◌, arith}
use Rattle.std.specs.Int.{from_bool}
use Rattle.bit_laws.specs.Numbers.{number, low}
use Rattle.bit_laws.specs.Rounding.{increment}
use Rattle.micro_ir.specs.Steps.{steps_on, micros, element}
use Rattle.micro_ir.specs.WorkRows.{carry_row}
use Rattle.micro_ir.proofs.OneElement.{hit, fires-hit}
use Rattle.micro_ir.proofs.Lift.{micros-element}
use Rattle.micro_ir.proofs.Ripples.{Without}
use Rattle.micro_ir.proofs.Incrementing.{incremented, increment-fits}
use Rattle.gen_shift.specs.Lists.{mode_rows, mode_on, mode_steps}
use Rattle.gen_shift.specs.Laws.{AreModeRows, ModeAdded, AddsMode}

-- the tables of the modes
pub mode-hit : (mode t g y : ℕ) (bits : ℕ → Bool) → hit (mode_on mode) (map bits (mode_rows mode t g y)) ≡ increment mode (bits t) (bits g) (bits y)
mode-hit zero t g y bits = up (bits g)
  where
    up : (x : Bool) → hit (1 ∷ []) (x ∷ []) ≡ x
    up true = refl
    up false = refl
mode-hit (suc zero) t g y bits = even (bits t) (bits g) (bits y)
  where
    even : (t g y : Bool) → hit (3 ∷ 6 ∷ 7 ∷ []) (t ∷ g ∷ y ∷ []) ≡ g && (t || y)
    even true true true = refl
    even true true false = refl
    even true false true = refl
    even true false false = refl
    even false true true = refl
    even false true false = refl
    even false false true = refl
    even false false false = refl
mode-hit (suc (suc zero)) t g y bits = refl
mode-hit (suc (suc (suc n))) t g y bits = odd (bits t) (bits g) (bits y)
  where
    odd : (t g y : Bool) → hit (2 ∷ 4 ∷ 6 ∷ []) (t ∷ g ∷ y ∷ []) ≡ not t && (g || y)
    odd true true true = refl
    odd true true false = refl
    odd true false true = refl
    odd true false false = refl
    odd false true true = refl
    odd false true false = refl
    odd false false true = refl
    odd false false false = refl

mode-without : (mode t g y : ℕ) → 36 < t → 36 < g → 36 < y → Without carry_row (mode_rows mode t g y)
mode-without zero t g y p q r = ((λ e. absurd (omega arith)), tt)
mode-without (suc zero) t g y p q r = ((λ e. absurd (omega arith)), ((λ e. absurd (omega arith)), ((λ e. absurd (omega arith)), tt)))
mode-without (suc (suc zero)) t g y p q r = tt
mode-without (suc (suc (suc n))) t g y p q r = ((λ e. absurd (omega arith)), ((λ e. absurd (omega arith)), ((λ e. absurd (omega arith)), tt)))

-- a mode that does not round down has a table
pub mode-some : (mode : ℕ) → mode ≢ 2 → 0 < length (mode_on mode)
mode-some zero other = omega arith
mode-some (suc zero) other = omega arith
mode-some (suc (suc zero)) other = absurd (other refl)
mode-some (suc (suc (suc n))) other = omega arith

-- on one element
pub mode-added : (w mode t g y : ℕ) (e : ℕ → ℕ → Bool) → 0 < w → AreModeRows t g y → ModeAdded w mode t g y e (steps_on (mode_steps w mode t g y) e)
mode-added w mode t g y e some rows =
    let tl : 36 < t = rows.quotient_low in
    let i = incremented w t (mode_rows mode t g y) (mode_on mode) e some (mode-without mode t g y tl rows.last_low rows.more_low) (λ q. absurd (omega arith)) (λ q. absurd (omega arith)) in
    record {
      made = i.sum
          ∙ ap (λ (c : Bool). low w (number w (e t) + from_bool c)) (fires-hit (mode_rows mode t g y) (mode_on mode) (λ r. e r 0) ∙ mode-hit mode t g y (λ r. e r 0));
      kept = i.rest;
    }

-- on all of them
pub adds-mode : (w mode t g y : ℕ) → 0 < w → AreModeRows t g y → AddsMode w mode t g y (micros w (mode_steps w mode t g y))
unfolding AddsMode
adds-mode w mode t g y some rows s k col inside column =
    rw (micros-element w k col (mode_steps w mode t g y) s (increment-fits w t (mode_rows mode t g y) (mode_on mode) some) inside column) (mode-added w mode t g y (element w k col s) some rows)
