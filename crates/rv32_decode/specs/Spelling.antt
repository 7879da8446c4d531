-- How an instruction stands in a word.
use Rattle.std.specs.Prelude.{◌≡◌, ℕ, ◌+◌, ◌*◌, ◌^◌, ◌<◌, Some}
use Rattle.word_rows.specs.Field.{field}
use Rattle.rv32_decode.specs.declared.formats.Format.{Format}
use Rattle.rv32_decode.specs.declared.formats.Format.TheVariants.{R, I, S, B, U, J, Shift, Unsigned, Bare}
use Rattle.rv32_decode.specs.Rows.{means}
use Rattle.rv32_decode.specs.declared.instruction.Instr.{Instr}

-- the operands of an instruction in the places of its format
abbrev pub placed : Format → Instr → ℕ
placed R i = i.rd * 2 ^ 7 + i.rs1 * 2 ^ 15 + i.rs2 * 2 ^ 20
placed I i = i.rd * 2 ^ 7 + i.rs1 * 2 ^ 15 + field 0 12 i.imm * 2 ^ 20
placed S i = field 0 5 i.imm * 2 ^ 7 + i.rs1 * 2 ^ 15 + i.rs2 * 2 ^ 20 + field 5 7 i.imm * 2 ^ 25
placed B i = field 11 1 i.imm * 2 ^ 7 + field 1 4 i.imm * 2 ^ 8 + i.rs1 * 2 ^ 15 + i.rs2 * 2 ^ 20 + field 5 6 i.imm * 2 ^ 25 + field 12 1 i.imm * 2 ^ 31
placed U i = i.rd * 2 ^ 7 + field 12 20 i.imm * 2 ^ 12
placed J i = i.rd * 2 ^ 7 + field 12 8 i.imm * 2 ^ 12 + field 11 1 i.imm * 2 ^ 20 + field 1 10 i.imm * 2 ^ 21 + field 20 1 i.imm * 2 ^ 31
placed Shift i = i.rd * 2 ^ 7 + i.rs1 * 2 ^ 15 + field 0 5 i.imm * 2 ^ 20
placed Unsigned i = i.rd * 2 ^ 7 + i.rs1 * 2 ^ 15 + field 0 12 i.imm * 2 ^ 20
placed Bare i = 0

-- some word means the instruction
pub record IsSpelled (i : Instr) : Type 0 where
  pub word : ℕ
  pub fits : word < 2 ^ 32
  pub meant : means word ≡ Some i
