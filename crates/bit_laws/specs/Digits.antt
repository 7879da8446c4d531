-- Numbers in hexadecimal digits.
use Rattle.std.specs.Prelude.{ℕ, zero, suc, ◌+◌, ◌/◌, ◌%◌, ◌^◌, nat_lt, if◌then◌else◌, List, [], ◌∷◌}

-- a hexadecimal digit, in lower case
abbrev pub hex_digit : ℕ → ℕ
hex_digit d = if nat_lt d 10 then 48 + d else 87 + d

-- that many of the lowest hexadecimal digits of a number, the highest of them first
abbrev pub hex_digits : ℕ → ℕ → List ℕ
hex_digits zero value = []
hex_digits (suc n) value = hex_digit (value / 16 ^ n % 16) ∷ hex_digits n value

-- a number of 32 bits, in eight hexadecimal digits
unfoldable pub hex_word : ℕ → List ℕ
hex_word value = hex_digits 8 value
