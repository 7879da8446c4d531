-- The values that arithmetic gives, under the names of its instructions on two registers: from two numbers of 32 bits a
-- number of 32 bits. Sums, differences and products are whole numbers without bound, taken at 32 bits.
use Rattle.std.specs.Prelude.{◌==◌, ℕ, ◌+◌, ◌-◌, ◌*◌, ◌/◌, ◌%◌, ◌^◌, ℤ, pos, ◌-ℤ◌, ◌*ℤ◌, bit_and, bit_or, bit_xor, nat_lt, int_lt, int_div, int_rem, unsigned_abs, if◌then◌else◌}
use Rattle.std.specs.Int.{w32, cast_signed, int_div_euclid, int_rem_euclid, int_shr}

-- 32 bits as a number with a sign, in two's complement (section 1.3)
abbrev pub signed : ℕ → ℤ
signed n = cast_signed w32 n

-- a whole number at 32 bits: what is left of it modulo 2^32
abbrev pub at_32 : ℤ → ℕ
at_32 z = unsigned_abs (int_rem_euclid z (pos (2 ^ 32)))

-- the sum (section 2.4)
abbrev pub add : ℕ → ℕ → ℕ
add a b = (a + b) % 2 ^ 32

-- the difference (section 2.4.2)
unfoldable pub sub : ℕ → ℕ → ℕ
sub a b = at_32 (pos a -ℤ pos b)

-- how far a shift goes: the number of the five lowest bits (section 2.4.2)
abbrev pub shift : ℕ → ℕ
shift b = b % 32

-- a shift to the left (section 2.4)
abbrev pub sll : ℕ → ℕ → ℕ
sll a b = a * 2 ^ shift b % 2 ^ 32

-- 1 where a is less than b as numbers with a sign, else 0 (section 2.4)
unfoldable pub slt : ℕ → ℕ → ℕ
slt a b = if int_lt (signed a) (signed b) then 1 else 0

-- 1 where a is less than b as numbers without a sign, else 0 (section 2.4)
unfoldable pub sltu : ℕ → ℕ → ℕ
sltu a b = if nat_lt a b then 1 else 0

-- exclusive or, bit by bit (section 2.4)
abbrev pub xor : ℕ → ℕ → ℕ
xor a b = bit_xor a b

-- or, bit by bit (section 2.4)
abbrev pub or : ℕ → ℕ → ℕ
or a b = bit_or a b

-- and, bit by bit (section 2.4)
abbrev pub and : ℕ → ℕ → ℕ
and a b = bit_and a b

-- a shift to the right, with zeros from the left (section 2.4)
abbrev pub srl : ℕ → ℕ → ℕ
srl a b = a / 2 ^ shift b

-- a shift to the right, with the sign from the left: towards minus infinity (section 2.4)
unfoldable pub sra : ℕ → ℕ → ℕ
sra a b = at_32 (int_shr (signed a) (shift b))

-- the product (chapter M, multiplication)
abbrev pub mul : ℕ → ℕ → ℕ
mul a b = a * b % 2 ^ 32

-- the higher half of the 64 bits of a product (chapter M, multiplication)
abbrev pub high_half : ℤ → ℕ
high_half product = at_32 (int_div_euclid product (pos (2 ^ 32)))

-- that of the product of two numbers with a sign (chapter M, multiplication)
unfoldable pub mulh : ℕ → ℕ → ℕ
mulh a b = high_half (signed a *ℤ signed b)

-- that of the product of a number with a sign and a number without (chapter M, multiplication)
unfoldable pub mulhsu : ℕ → ℕ → ℕ
mulhsu a b = high_half (signed a *ℤ pos b)

-- that of the product of two numbers without a sign (chapter M, multiplication)
unfoldable pub mulhu : ℕ → ℕ → ℕ
mulhu a b = a * b / 2 ^ 32

-- the number with 1 in each bit, the quotient of a division by zero (chapter M, division)
abbrev pub all_ones : ℕ
all_ones = 2 ^ 32 - 1

-- the quotient of numbers with a sign, rounded towards zero; -2^31 by -1, which overflows, is -2^31 (chapter M, division)
unfoldable pub div : ℕ → ℕ → ℕ
div a b = if b == 0 then all_ones else at_32 (int_div (signed a) (signed b))

-- the quotient of numbers without a sign (chapter M, division)
unfoldable pub divu : ℕ → ℕ → ℕ
divu a b = if b == 0 then all_ones else a / b

-- the remainder of numbers with a sign, which has the sign of a; of -2^31 by -1 it is 0, and by zero it is a (chapter M,
-- division)
unfoldable pub rem : ℕ → ℕ → ℕ
rem a b = if b == 0 then a else at_32 (int_rem (signed a) (signed b))

-- the remainder of numbers without a sign; by zero it is a (chapter M, division)
unfoldable pub remu : ℕ → ℕ → ℕ
remu a b = if b == 0 then a else a % b
