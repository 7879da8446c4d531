-- Loads and stores (section 2.6). An access may have any address, a multiple of its size or not.
use Rattle.std.specs.Prelude.{ℕ, ◌%◌, ◌^◌}
use Rattle.std.specs.Int.{w8, w16, cast_signed}
use Rattle.rvv_meaning.specs.Scalar.Arithmetic.{at_32}

-- the permission that a load needs of each byte
abbrev pub to_read : ℕ
to_read = 4

-- the permission that a store needs of each byte
abbrev pub to_write : ℕ
to_write = 2

-- the bytes of a byte (section 1.4)
abbrev pub byte : ℕ
byte = 1

-- the bytes of a halfword (section 1.4)
abbrev pub halfword : ℕ
halfword = 2

-- the bytes of a word (section 1.4)
abbrev pub word : ℕ
word = 4

-- What a load makes of the number of its bytes, under the name of its instruction (section 2.6).

-- a byte, extended by its sign (section 2.6)
abbrev pub lb : ℕ → ℕ
lb n = at_32 (cast_signed w8 (n % 2 ^ 8))

-- a halfword, extended by its sign (section 2.6)
abbrev pub lh : ℕ → ℕ
lh n = at_32 (cast_signed w16 (n % 2 ^ 16))

-- a word (section 2.6)
abbrev pub lw : ℕ → ℕ
lw n = n

-- a byte, extended by zeros (section 2.6)
abbrev pub lbu : ℕ → ℕ
lbu n = n

-- a halfword, extended by zeros (section 2.6)
abbrev pub lhu : ℕ → ℕ
lhu n = n
