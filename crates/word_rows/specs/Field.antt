-- Fields of a word.
use Rattle.std.specs.Prelude.{ℕ, ◌+◌, ◌-◌, ◌/◌, ◌%◌, ◌^◌, nat_lt, if◌then◌else◌}

-- the bits of a number from bit `low` on, `width` of them
abbrev pub field : ℕ → ℕ → ℕ → ℕ
field low width n = n / 2 ^ low % 2 ^ width

-- a number of `width` bits read as two's complement, in 32 bits
abbrev pub sign_extended : ℕ → ℕ → ℕ
sign_extended width n = if nat_lt n (2 ^ (width - 1)) then n else n + (2 ^ 32 - 2 ^ width)
