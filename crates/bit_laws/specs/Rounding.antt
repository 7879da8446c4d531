-- Numbers with a sign by their bits, numbers rounded to whole ones, and numbers clipped to the range of an element.
use Rattle.std.specs.Prelude.{ℕ, zero, suc, ◌-◌, ◌^◌, Bool, true, false, cond, not, ◌&&◌, ◌||◌, ℤ, pos, negsuc, ◌+ℤ◌, ◌-ℤ◌, int_lt}
use Rattle.std.specs.Int.{int_shr, from_bool}
use Rattle.bit_laws.specs.Numbers.{low, bit_of}

-- bit j of a number with a sign, in two's complement
abbrev pub bit_of_int : ℤ → ℕ → Bool
bit_of_int (pos n) j = bit_of n j
bit_of_int (negsuc n) j = not (bit_of n j)

-- what is left of a number with a sign modulo 2^w
abbrev pub low_int : (w : ℕ) → ℤ → ℕ
low_int w (pos n) = low w n
low_int w (negsuc n) = 2 ^ w - 1 - low w n

-- ---- rounding (section 3.8)

-- one of the bits below place n is 1
abbrev pub any_below : ℕ → (ℕ → Bool) → Bool
any_below zero x = false
any_below (suc n) x = any_below n x || x n

-- the last of the n bits that are shifted out, and whether one below it is 1
abbrev pub last_out : (ℕ → Bool) → ℕ → Bool
last_out x zero = false
last_out x (suc n) = x n

abbrev pub more_out : (ℕ → Bool) → ℕ → Bool
more_out x zero = false
more_out x (suc n) = any_below n x

-- Whether 1 is added to the quotient that is rounded down, by its lowest bit, by the last bit out, and by whether a lower one
-- is 1. Mode 0: to the nearest, a tie up. Mode 1: to the nearest, a tie to the even one. Mode 2: down. Mode 3: to the odd one.
abbrev pub increment : (mode : ℕ) → (odd last more : Bool) → Bool
increment zero odd last more = last
increment (suc zero) odd last more = last && (odd || more)
increment (suc (suc zero)) odd last more = false
increment (suc (suc (suc n))) odd last more = not odd && (last || more)

-- what a mode adds to z over 2^n
abbrev pub increment_of : (mode : ℕ) (z : ℤ) (n : ℕ) → Bool
increment_of mode z n = increment mode (bit_of_int z n) (last_out (bit_of_int z) n) (more_out (bit_of_int z) n)

-- z over 2^n, rounded
abbrev pub rounded : (mode : ℕ) (z : ℤ) (n : ℕ) → ℤ
rounded mode z n = int_shr z n +ℤ pos (from_bool (increment_of mode z n))

-- ---- clips (section 12)

-- a number clipped to the range of w bits with a sign, and whether this changes it
abbrev pub clipped : (w : ℕ) → ℤ → ℤ
clipped w z = cond (int_lt z (pos 0 -ℤ pos (2 ^ (w - 1)))) (pos 0 -ℤ pos (2 ^ (w - 1))) (cond (int_lt z (pos (2 ^ (w - 1)))) z (pos (2 ^ (w - 1)) -ℤ pos 1))

abbrev pub clips : (w : ℕ) → ℤ → Bool
clips w z = cond (int_lt z (pos 0 -ℤ pos (2 ^ (w - 1)))) true (cond (int_lt z (pos (2 ^ (w - 1)))) false true)

-- the same for the range of w bits without a sign
abbrev pub clipped_unsigned : (w : ℕ) → ℤ → ℤ
clipped_unsigned w z = cond (int_lt z (pos 0)) (pos 0) (cond (int_lt z (pos (2 ^ w))) z (pos (2 ^ w) -ℤ pos 1))

abbrev pub clips_unsigned : (w : ℕ) → ℤ → Bool
clips_unsigned w z = cond (int_lt z (pos 0)) true (cond (int_lt z (pos (2 ^ w))) false true)
