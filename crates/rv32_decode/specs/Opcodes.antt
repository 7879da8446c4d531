-- The opcodes, bits 6 to 0 of a word, under the names of the standard's opcode map.
use Rattle.std.specs.Prelude.{ℕ}

abbrev pub lui : ℕ
lui = 0b0110111

abbrev pub auipc : ℕ
auipc = 0b0010111

abbrev pub jal : ℕ
jal = 0b1101111

abbrev pub jalr : ℕ
jalr = 0b1100111

abbrev pub branch : ℕ
branch = 0b1100011

abbrev pub load : ℕ
load = 0b0000011

abbrev pub store : ℕ
store = 0b0100011

-- arithmetic on a register and an immediate
abbrev pub op_imm : ℕ
op_imm = 0b0010011

-- arithmetic on two registers
abbrev pub op_reg : ℕ
op_reg = 0b0110011

-- fences
abbrev pub misc_mem : ℕ
misc_mem = 0b0001111

-- calls of the environment, and control registers
abbrev pub system : ℕ
system = 0b1110011
