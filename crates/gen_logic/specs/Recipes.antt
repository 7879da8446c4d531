-- The lists of steps of the kinds that act bit by bit: each makes a table of the bits of rows in the result row and commits it.
use Rattle.std.specs.Prelude.{ℕ, ◌+◌, true, List, [], ◌∷◌, length}
use Rattle.cam_chain.specs.declared.counts.Counts.{Counts}
use Rattle.micro_ir.specs.Measures.{counts}
use Rattle.micro_ir.specs.Steps.{Step, micros}
use Rattle.micro_ir.specs.declared.op.MicroOp.{MicroOp}
use Rattle.micro_ir.specs.declared.place.Place.{Place}
use Rattle.micro_ir.specs.WorkRows.{mask_row, result_row}
use Rattle.micro_ir.specs.Pieces.{everywhere, clear, commit}
use Rattle.gen_logic.specs.declared.kinds.Logic.{Logic}
use Rattle.gen_logic.specs.declared.kinds.Logic.TheVariants.{And, Or, Xor, Nand, Nor, Xnor, Andn, Orn, First, Second, Merge}

-- the rows that a kind reads
abbrev pub inputs_of : Logic → (a b : ℕ) → List ℕ
inputs_of First a b = a ∷ []
inputs_of Second a b = b ∷ []
inputs_of Merge a b = mask_row ∷ a ∷ b ∷ []
inputs_of _ a b = a ∷ b ∷ []

-- the values of those rows' bits, the first row lowest, that give 1
abbrev pub on_of : Logic → List ℕ
on_of And = 3 ∷ []
on_of Or = 1 ∷ 2 ∷ 3 ∷ []
on_of Xor = 1 ∷ 2 ∷ []
on_of Nand = 0 ∷ 1 ∷ 2 ∷ []
on_of Nor = 0 ∷ []
on_of Xnor = 0 ∷ 3 ∷ []
on_of Andn = 1 ∷ []
on_of Orn = 0 ∷ 1 ∷ 3 ∷ []
on_of First = 1 ∷ []
on_of Second = 1 ∷ []
on_of Merge = 2 ∷ 5 ∷ 6 ∷ 7 ∷ []

-- the kind of rows a and b into the register `to`
unfoldable pub logic_steps : Logic → (w a b to : ℕ) → List Step
logic_steps kind w a b to = clear w result_row ∷ everywhere w (inputs_of kind a b) (on_of kind) result_row true ∷ commit w result_row to

-- its operations, with the rows of a place
abbrev pub logic_ops : Logic → (w : ℕ) → Place → List MicroOp
logic_ops kind w at = micros w (logic_steps kind w at.a at.b at.to)

-- its searches, updates and passes, and the number of its operations
abbrev pub logic_counts : Logic → Counts
logic_counts kind = counts (length (on_of kind) + 3) 4 0

abbrev pub logic_length : Logic → ℕ
logic_length kind = length (on_of kind) + 7
