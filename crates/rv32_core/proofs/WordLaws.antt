-- The word that is spelled is the one that means the instruction.
use Rattle.std.proofs.Common.{◌≡◌}
use Rattle.rv32_decode.specs.declared.instruction.Instr.{Instr}
use Rattle.rv32_decode.specs.Spelling.{IsSpelled}
use Rattle.rv32_decode.proofs.Spelled.{word_is}
use Rattle.rvv_meaning.specs.Scalar.Words.{word_of}

pub word_of-is : (i : Instr) (s : IsSpelled i) → word_of i ≡ s.word
unfolding word_of
word_of-is i s = word_is i s.word s.fits s.meant
