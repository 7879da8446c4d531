-- Lists that leave a value in a work row and then commit it.
use Rattle.std.proofs.Common.{◌≡◌, ◌≢◌, ℕ, ◌+◌, ◌*◌, ◌<◌, ◌≤◌, Bool, true, refl, ◌∙◌, arith, List}
use Rattle.bit_laws.specs.Numbers.{number, low}
use Rattle.bit_laws.proofs.Numbers.{number-same}
use Rattle.micro_ir.specs.Steps.{Step, steps_on, AllFit, micros, element}
use Rattle.micro_ir.specs.WorkRows.{active_row, mask_row, scalar_row}
use Rattle.micro_ir.specs.Pieces.{commit}
use Rattle.micro_ir.specs.Kinds.{Writes, Realises}
use Rattle.micro_ir.proofs.Lift.{micros-element}
use Rattle.micro_ir.proofs.OneElement.{commit-here, commit-row}

-- A list that leaves the value in a work row, and then commits it.
pub commit-writes : (w row to : ℕ) (reads : Bool) (value : (ℕ → ℕ) → Bool → ℕ) (e mid : ℕ → ℕ → Bool) → row ≢ to → to < 32
    → ((c : Bool) → (reads ≡ true → (j : ℕ) → j < w → e mask_row j ≡ c) → number w (mid row) ≡ low w (value (λ r. number w (e r)) c))
    → ((r j : ℕ) → r ≤ scalar_row → j < w → mid r j ≡ e r j)
    → Writes w to reads value e (steps_on (commit w row to) mid)
commit-writes w row to reads value e mid other register is kept =
    let passive : to ≢ active_row = omega arith in
    record {
      active = λ a c mask. number-same w (steps_on (commit w row to) mid to) (mid row)
          (λ j inside. commit-here w row to mid j other passive inside ∙ rw (kept active_row j (omega arith) inside, a j inside) refl) ∙ is c mask;
      idle = λ a j inside. commit-here w row to mid j other passive inside ∙ rw (kept active_row j (omega arith) inside, a j inside) (kept to j (omega arith) inside);
      kept = λ r j low apart inside. commit-row w row to mid r j apart ∙ kept r j low inside;
    }

-- From one element to all of them.
pub lifted : (w to : ℕ) (reads : Bool) (value : (ℕ → ℕ) → Bool → ℕ) (steps : List Step) → AllFit w steps
    → ((e : ℕ → ℕ → Bool) → Writes w to reads value e (steps_on steps e)) → Realises w to reads value (micros w steps)
unfolding Realises
lifted w to reads value steps fits writes s k col inside column = rw (micros-element w k col steps s fits inside column) (writes (element w k col s))
