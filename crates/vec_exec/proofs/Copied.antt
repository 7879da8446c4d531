-- A copy of what is laid out: its row is committed.
use Rattle.std.proofs.Common.{◌≢◌, ℕ, ◌<◌, false, refl, sym, arith}
use Rattle.std.proofs.Math.Nat.{mod-eq_of_lt}
use Rattle.bit_laws.proofs.Numbers.{number-lt}
use Rattle.micro_ir.specs.Kinds.{Realises}
use Rattle.micro_ir.specs.Measures.{counts, Measured}
use Rattle.micro_ir.specs.Pieces.{commit}
use Rattle.micro_ir.specs.Steps.{element, micros}
use Rattle.micro_ir.specs.WorkRows.{active_row}
use Rattle.micro_ir.proofs.Committed.{commit-writes}
use Rattle.micro_ir.proofs.Lift.{micros-element}
use Rattle.micro_ir.proofs.OneElement.{commit-fits}
use Rattle.micro_ir.proofs.StepLists.{tally-micros, length-micros, AllInRange-micros}

pub copied : (w row to : ℕ) → row ≢ active_row → row ≢ to → to < 32 → Realises w to false (λ n m. n row) (micros w (commit w row to))
unfolding Realises
copied w row to passive other register s k col fits inside =
    let e = element w k col s in
    rw (micros-element w k col (commit w row to) s (commit-fits w row to passive) fits inside)
    (commit-writes w row to false (λ n m. n row) e e other register (λ m mask. sym (mod-eq_of_lt (number-lt w (e row)))) (λ r j low within. refl))

pub copied-measured : (w row to : ℕ) → to < 32 → Measured (counts 2 2 0) 4 (micros w (commit w row to))
copied-measured w row to register = record {
  cost = tally-micros w (commit w row to);
  count = length-micros w (commit w row to);
  range = λ columns. AllInRange-micros columns w (commit w row to) (omega arith, omega arith, (omega arith, omega arith, tt));
}
