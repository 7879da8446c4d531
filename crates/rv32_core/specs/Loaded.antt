-- The loads, by what they read.
use Rattle.std.specs.Prelude.{ℕ}
use Rattle.rvv_meaning.specs.Scalar.Accesses as access
use Rattle.rv32_core.specs.declared.accesses.Loaded.{Loaded}
use Rattle.rv32_core.specs.declared.accesses.Loaded.TheVariants.{Byte, Halfword, Word, ByteUnsigned, HalfwordUnsigned}

-- how many bytes a load reads
abbrev pub size_of : Loaded → ℕ
size_of Byte = access.byte
size_of Halfword = access.halfword
size_of Word = access.word
size_of ByteUnsigned = access.byte
size_of HalfwordUnsigned = access.halfword

-- what it makes of their number
abbrev pub value_of : Loaded → ℕ → ℕ
value_of Byte = access.lb
value_of Halfword = access.lh
value_of Word = access.lw
value_of ByteUnsigned = access.lbu
value_of HalfwordUnsigned = access.lhu
