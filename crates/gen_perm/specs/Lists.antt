-- The lists of the kinds that move elements.
use Rattle.std.specs.Prelude.{ℕ, List, ◌∷◌}
use Rattle.micro_ir.specs.declared.op.MicroOp.{MicroOp}
use Rattle.micro_ir.specs.Steps.{micros}
use Rattle.micro_ir.specs.Pieces.{commit}
use Rattle.micro_ir.specs.WorkRows.{scalar_row, result_row}

-- an operation, and a commit of the row to the register
abbrev pub committed_ops : (w : ℕ) → MicroOp → (row to : ℕ) → List MicroOp
committed_ops w op row to = op ∷ micros w (commit w row to)

-- an operation that moves elements into the result row, and the commit of its values
abbrev pub move_ops : (w : ℕ) → MicroOp → (to : ℕ) → List MicroOp
move_ops w op to = committed_ops w op result_row to

-- a window, and the commit of the scalar to its elements
abbrev pub single_ops : (w : ℕ) → MicroOp → (to : ℕ) → List MicroOp
single_ops w op to = committed_ops w op scalar_row to
