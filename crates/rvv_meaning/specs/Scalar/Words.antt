-- The word of an instruction.
use Rattle.std.specs.Prelude.{ℕ, bit_or}
use Rattle.rv32_decode.specs.declared.instruction.Instr.{Instr}
use Rattle.rv32_decode.specs.Rows.{encoding_of}
use Rattle.rv32_decode.specs.Spelling.{placed}

-- the bits that are the same in all words of an operation, and its operands in their places (sections 2.2 and 2.3)
unfoldable pub word_of : Instr → ℕ
word_of i = bit_or (encoding_of i.op).value (placed (encoding_of i.op).format i)
