-- Numbers with a sign.
use Rattle.std.specs.Prelude.{ℕ, ◌+◌, ◌-◌, ◌^◌, Bool, cond, not, ◌&&◌, ℤ, pos, ◌-ℤ◌}
use lib.Dec.{ltb}

-- a number of w bits with a sign, in two's complement
abbrev pub signed : (w n : ℕ) → ℤ
signed w n = cond (ltb n (2 ^ (w - 1))) (pos n) (pos n -ℤ pos (2 ^ w))

-- a number of n bits as one of w bits, extended by its sign or by zeros; where n is w or more it stays
abbrev pub extended : (sign : Bool) → (n w number : ℕ) → ℕ
extended sign n w number = cond (sign && not (ltb number (2 ^ (n - 1)))) (number + (2 ^ w - 2 ^ n)) number
