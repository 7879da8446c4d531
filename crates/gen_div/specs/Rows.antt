-- The rows of the operands of divisions.
use Rattle.std.specs.Prelude.{◌≡◌, ◌<◌, ◌⊎◌, ℕ}
use Rattle.micro_ir.specs.WorkRows.{IsOperandRow, scalar_row}
use Rattle.gen_div.specs.declared.kinds.Division.{Division}
use Rattle.gen_div.specs.declared.kinds.Division.TheVariants.{Divu, Remu, Div, Rem}

-- a register or the row of the scalar
abbrev pub IsSignedRow : ℕ → Type 0
IsSignedRow r = (r < 32) ⊎ (r ≡ scalar_row)

-- Where there are signs, the numbers without them stand in the rows of the wide operands.
abbrev pub IsRowOf : Division → ℕ → Type 0
IsRowOf Divu r = IsOperandRow r
IsRowOf Remu r = IsOperandRow r
IsRowOf Div r = IsSignedRow r
IsRowOf Rem r = IsSignedRow r
