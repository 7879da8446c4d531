-- The fields of words, and the formats: which operands a word has, and where they stand in it.
use Rattle.std.specs.Prelude.{ℕ, ◌+◌, ◌*◌, ◌^◌, ◌<◌}
use Rattle.word_rows.specs.Field.{field, sign_extended}
use Rattle.rv32_decode.specs.declared.operations.Op.{Op}
use Rattle.rv32_decode.specs.declared.formats.Format.{Format}
use Rattle.rv32_decode.specs.declared.formats.Format.TheVariants.{R, I, S, B, U, J, Shift, Unsigned, Bare}
use Rattle.rv32_decode.specs.declared.instruction.Instr.{Instr}

abbrev pub opcode_of : ℕ → ℕ
opcode_of word = field 0 7 word

abbrev pub f3_of : ℕ → ℕ
f3_of word = field 12 3 word

abbrev pub f7_of : ℕ → ℕ
f7_of word = field 25 7 word

abbrev pub rd_of : ℕ → ℕ
rd_of word = field 7 5 word

abbrev pub rs1_of : ℕ → ℕ
rs1_of word = field 15 5 word

abbrev pub rs2_of : ℕ → ℕ
rs2_of word = field 20 5 word

-- the immediates of the formats
abbrev pub i_immediate : ℕ → ℕ
i_immediate word = sign_extended 12 (field 20 12 word)

abbrev pub s_immediate : ℕ → ℕ
s_immediate word = sign_extended 12 (field 7 5 word + field 25 7 word * 2 ^ 5)

abbrev pub b_immediate : ℕ → ℕ
b_immediate word = sign_extended 13 (field 8 4 word * 2 ^ 1 + field 25 6 word * 2 ^ 5 + field 7 1 word * 2 ^ 11 + field 31 1 word * 2 ^ 12)

abbrev pub u_immediate : ℕ → ℕ
u_immediate word = field 12 20 word * 2 ^ 12

abbrev pub j_immediate : ℕ → ℕ
j_immediate word = sign_extended 21 (field 21 10 word * 2 ^ 1 + field 20 1 word * 2 ^ 11 + field 12 8 word * 2 ^ 12 + field 31 1 word * 2 ^ 20)

-- the instruction of an operation with the operands of a word; what the format has not is 0
abbrev pub instruction : Format → Op → ℕ → Instr
instruction R op word = record { op = op; rd = rd_of word; rs1 = rs1_of word; rs2 = rs2_of word; imm = 0 }
instruction I op word = record { op = op; rd = rd_of word; rs1 = rs1_of word; rs2 = 0; imm = i_immediate word }
instruction S op word = record { op = op; rd = 0; rs1 = rs1_of word; rs2 = rs2_of word; imm = s_immediate word }
instruction B op word = record { op = op; rd = 0; rs1 = rs1_of word; rs2 = rs2_of word; imm = b_immediate word }
instruction U op word = record { op = op; rd = rd_of word; rs1 = 0; rs2 = 0; imm = u_immediate word }
instruction J op word = record { op = op; rd = rd_of word; rs1 = 0; rs2 = 0; imm = j_immediate word }
instruction Shift op word = record { op = op; rd = rd_of word; rs1 = rs1_of word; rs2 = 0; imm = field 20 5 word }
instruction Unsigned op word = record { op = op; rd = rd_of word; rs1 = rs1_of word; rs2 = 0; imm = field 20 12 word }
instruction Bare op word = record { op = op; rd = 0; rs1 = 0; rs2 = 0; imm = 0 }

-- each register of the instruction is one of the 32
pub record HasRegisters (i : Instr) : Type 0 where
  pub rd : i.rd < 32
  pub rs1 : i.rs1 < 32
  pub rs2 : i.rs2 < 32
