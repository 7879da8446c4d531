-- Numbers and their bits.
use Rattle.std.specs.Prelude.{ℕ, zero, suc, ◌+◌, ◌*◌, ◌/◌, ◌%◌, ◌^◌, Bool, cond, eqb}
use Rattle.std.specs.Int.{bit_at}

-- the number whose bits at the places below n are these: the sum of 2^k over the places k that hold 1
abbrev pub number : ℕ → (ℕ → Bool) → ℕ
number zero f = 0
number (suc n) f = number n f + cond (f n) (2 ^ n) 0

-- the number at n bits: what is left of it modulo 2^n
abbrev pub low : ℕ → ℕ → ℕ
low n z = z % 2 ^ n

-- bit j of a number
abbrev pub bit_of : ℕ → ℕ → Bool
bit_of z j = eqb (bit_at z j) 1

-- byte k of a number
abbrev pub byte_of : ℕ → ℕ → ℕ
byte_of z k = z / 2 ^ (8 * k) % 2 ^ 8

-- the number of n bytes, the lowest first
abbrev pub little : ℕ → (ℕ → ℕ) → ℕ
little zero f = 0
little (suc n) f = little n f + f n * 2 ^ (8 * n)
