-- The table of scalar words: a row for each operation, and what a word means by it.
use Rattle.std.specs.Prelude.{ℕ, ◌+◌, ◌*◌, ◌^◌, List, [], ◌∷◌, Option, map}
use Rattle.std.specs.Option.{option_map}
use Rattle.word_rows.specs.Rows.{Row, look_up}
use Rattle.rv32_decode.specs.Opcodes as opcode
use Rattle.rv32_decode.specs.declared.formats.Format.{Format}
use Rattle.rv32_decode.specs.declared.formats.Format.TheVariants.{R, I, S, B, U, J, Shift, Unsigned, Bare}
use Rattle.rv32_decode.specs.Formats.{instruction}
use Rattle.rv32_decode.specs.declared.operations.Op.{Op}
use Rattle.rv32_decode.specs.declared.operations.Op.TheVariants.{Lui, Auipc, Jal, Jalr, Beq, Bne, Blt, Bge, Bltu, Bgeu, Lb, Lh, Lw, Lbu, Lhu, Sb, Sh, Sw, Addi, Slti, Sltiu, Xori, Ori, Andi, Slli, Srli, Srai, Add, Sub, Sll, Slt, Sltu, Xor, Srl, Sra, Or, And, Mul, Mulh, Mulhsu, Mulhu, Div, Divu, Rem, Remu, Fence, FenceI, Ecall, Ebreak, Csrrw, Csrrs, Csrrc, Csrrwi, Csrrsi, Csrrci}
use Rattle.rv32_decode.specs.declared.instruction.Instr.{Instr}

-- how the words of an operation are known, by their bits under a mask, and the format of their operands (f3 is bits 14
-- to 12 of a word, f7 bits 31 to 25)
pub record Encoding : Type 0 where
  pub mask : ℕ
  pub value : ℕ
  pub format : Format

-- by the opcode alone
abbrev by_opcode : ℕ → Format → Encoding
by_opcode code format = record { mask = 0x7f; value = code; format = format }

-- by the opcode and f3
abbrev by_f3 : ℕ → ℕ → Format → Encoding
by_f3 code f3 format = record { mask = 0x707f; value = code + f3 * 2 ^ 12; format = format }

-- by the opcode, f7 and f3
abbrev by_f7 : ℕ → ℕ → ℕ → Format → Encoding
by_f7 code f7 f3 format = record { mask = 0xfe00707f; value = code + f3 * 2 ^ 12 + f7 * 2 ^ 25; format = format }

-- by each bit
abbrev by_word : ℕ → Encoding
by_word word = record { mask = 0xffffffff; value = word; format = Bare }

-- the table, by operations
unfoldable pub encoding_of : Op → Encoding
encoding_of Lui = by_opcode opcode.lui U
encoding_of Auipc = by_opcode opcode.auipc U
encoding_of Jal = by_opcode opcode.jal J
encoding_of Jalr = by_f3 opcode.jalr 0b000 I
encoding_of Beq = by_f3 opcode.branch 0b000 B
encoding_of Bne = by_f3 opcode.branch 0b001 B
encoding_of Blt = by_f3 opcode.branch 0b100 B
encoding_of Bge = by_f3 opcode.branch 0b101 B
encoding_of Bltu = by_f3 opcode.branch 0b110 B
encoding_of Bgeu = by_f3 opcode.branch 0b111 B
encoding_of Lb = by_f3 opcode.load 0b000 I
encoding_of Lh = by_f3 opcode.load 0b001 I
encoding_of Lw = by_f3 opcode.load 0b010 I
encoding_of Lbu = by_f3 opcode.load 0b100 I
encoding_of Lhu = by_f3 opcode.load 0b101 I
encoding_of Sb = by_f3 opcode.store 0b000 S
encoding_of Sh = by_f3 opcode.store 0b001 S
encoding_of Sw = by_f3 opcode.store 0b010 S
encoding_of Addi = by_f3 opcode.op_imm 0b000 I
encoding_of Slti = by_f3 opcode.op_imm 0b010 I
encoding_of Sltiu = by_f3 opcode.op_imm 0b011 I
encoding_of Xori = by_f3 opcode.op_imm 0b100 I
encoding_of Ori = by_f3 opcode.op_imm 0b110 I
encoding_of Andi = by_f3 opcode.op_imm 0b111 I
encoding_of Slli = by_f7 opcode.op_imm 0b0000000 0b001 Shift
encoding_of Srli = by_f7 opcode.op_imm 0b0000000 0b101 Shift
encoding_of Srai = by_f7 opcode.op_imm 0b0100000 0b101 Shift
encoding_of Add = by_f7 opcode.op_reg 0b0000000 0b000 R
encoding_of Sub = by_f7 opcode.op_reg 0b0100000 0b000 R
encoding_of Sll = by_f7 opcode.op_reg 0b0000000 0b001 R
encoding_of Slt = by_f7 opcode.op_reg 0b0000000 0b010 R
encoding_of Sltu = by_f7 opcode.op_reg 0b0000000 0b011 R
encoding_of Xor = by_f7 opcode.op_reg 0b0000000 0b100 R
encoding_of Srl = by_f7 opcode.op_reg 0b0000000 0b101 R
encoding_of Sra = by_f7 opcode.op_reg 0b0100000 0b101 R
encoding_of Or = by_f7 opcode.op_reg 0b0000000 0b110 R
encoding_of And = by_f7 opcode.op_reg 0b0000000 0b111 R
encoding_of Mul = by_f7 opcode.op_reg 0b0000001 0b000 R
encoding_of Mulh = by_f7 opcode.op_reg 0b0000001 0b001 R
encoding_of Mulhsu = by_f7 opcode.op_reg 0b0000001 0b010 R
encoding_of Mulhu = by_f7 opcode.op_reg 0b0000001 0b011 R
encoding_of Div = by_f7 opcode.op_reg 0b0000001 0b100 R
encoding_of Divu = by_f7 opcode.op_reg 0b0000001 0b101 R
encoding_of Rem = by_f7 opcode.op_reg 0b0000001 0b110 R
encoding_of Remu = by_f7 opcode.op_reg 0b0000001 0b111 R
encoding_of Fence = by_f3 opcode.misc_mem 0b000 Unsigned
encoding_of FenceI = by_f3 opcode.misc_mem 0b001 Unsigned
encoding_of Ecall = by_word 0x00000073
encoding_of Ebreak = by_word 0x00100073
encoding_of Csrrw = by_f3 opcode.system 0b001 Unsigned
encoding_of Csrrs = by_f3 opcode.system 0b010 Unsigned
encoding_of Csrrc = by_f3 opcode.system 0b011 Unsigned
encoding_of Csrrwi = by_f3 opcode.system 0b101 Unsigned
encoding_of Csrrsi = by_f3 opcode.system 0b110 Unsigned
encoding_of Csrrci = by_f3 opcode.system 0b111 Unsigned

-- each operation once
unfoldable pub operations : List Op
operations =
    Lui ∷ Auipc ∷ Jal ∷ Jalr ∷ Beq ∷ Bne ∷ Blt ∷ Bge ∷ Bltu ∷ Bgeu
    ∷ Lb ∷ Lh ∷ Lw ∷ Lbu ∷ Lhu ∷ Sb ∷ Sh ∷ Sw
    ∷ Addi ∷ Slti ∷ Sltiu ∷ Xori ∷ Ori ∷ Andi ∷ Slli ∷ Srli ∷ Srai
    ∷ Add ∷ Sub ∷ Sll ∷ Slt ∷ Sltu ∷ Xor ∷ Srl ∷ Sra ∷ Or ∷ And
    ∷ Mul ∷ Mulh ∷ Mulhsu ∷ Mulhu ∷ Div ∷ Divu ∷ Rem ∷ Remu
    ∷ Fence ∷ FenceI ∷ Ecall ∷ Ebreak ∷ Csrrw ∷ Csrrs ∷ Csrrc ∷ Csrrwi ∷ Csrrsi ∷ Csrrci
    ∷ []

abbrev pub row_of : Op → Row Op
row_of op = record { mask = (encoding_of op).mask; value = (encoding_of op).value; kind = op }

-- the table, as rows
unfoldable pub rows : List (Row Op)
rows = map row_of operations

-- the instruction of an operation with the operands of a word
abbrev pub instruction_of : Option Op → ℕ → Option Instr
instruction_of found word = option_map (λ op. instruction (encoding_of op).format op word) found

-- the instruction that a word means, by the row that it fits
unfoldable pub means : ℕ → Option Instr
means word = instruction_of (look_up rows word) word
