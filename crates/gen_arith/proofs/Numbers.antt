-- The numbers that digits and carries make.
use Rattle.std.proofs.Common.{◌≡◌, ℕ, ◌+◌, ◌*◌, ◌^◌, ◌<◌, Bool, true, false, cond, zero, suc, refl, sym, arith}
use Rattle.std.proofs.Math.Nat.{pow-suc}
use Rattle.std.proofs.lemmas.Nat.{mod-mul-add}
use Rattle.bit_laws.specs.Numbers.{number, low}
use Rattle.gen_arith.specs.Recipes.{odd_on, most_on, odd_not_on, most_not_on}
use Rattle.gen_arith.proofs.Rows.{finds, carried}

full_adder : (c x y : Bool) (p : ℕ) → cond (finds odd_on c x y) p 0 + cond (finds most_on c x y) (p * 2) 0 ≡ cond c p 0 + (cond x p 0 + cond y p 0)
full_adder true true true p = omega arith
full_adder true true false p = omega arith
full_adder true false true p = omega arith
full_adder true false false p = omega arith
full_adder false true true p = omega arith
full_adder false true false p = omega arith
full_adder false false true p = omega arith
full_adder false false false p = omega arith

-- the digits of a sum
abbrev pub sum_digits : (first : Bool) (x y : ℕ → Bool) → ℕ → Bool
sum_digits first x y i = finds odd_on (carried most_on first x y i) (x i) (y i)

pub adder : (n : ℕ) (x y : ℕ → Bool) (first : Bool)
    → number n (sum_digits first x y) + cond (carried most_on first x y n) (2 ^ n) 0 ≡ (number n x + number n y) + cond first 1 0
adder zero x y first = refl
adder (suc n) x y first =
    rw (pow-suc 2 n) (omega (arith, adder n x y first, full_adder (carried most_on first x y n) (x n) (y n) (2 ^ n)))

full_subtracter : (c x y : Bool) (p : ℕ) → cond (finds odd_not_on c x y) p 0 + cond (finds most_not_on c x y) (p * 2) 0 + cond y p 0 ≡ cond c p 0 + cond x p 0 + p
full_subtracter true true true p = omega arith
full_subtracter true true false p = omega arith
full_subtracter true false true p = omega arith
full_subtracter true false false p = omega arith
full_subtracter false true true p = omega arith
full_subtracter false true false p = omega arith
full_subtracter false false true p = omega arith
full_subtracter false false false p = omega arith

-- the digits of a difference
abbrev pub difference_digits : (first : Bool) (x y : ℕ → Bool) → ℕ → Bool
difference_digits first x y i = finds odd_not_on (carried most_not_on first x y i) (x i) (y i)

pub subtracter : (n : ℕ) (x y : ℕ → Bool) (first : Bool)
    → number n (difference_digits first x y) + cond (carried most_not_on first x y n) (2 ^ n) 0 + number n y + 1 ≡ number n x + 2 ^ n + cond first 1 0
subtracter zero x y first = omega arith
subtracter (suc n) x y first =
    rw (pow-suc 2 n) (omega (arith, subtracter n x y first, full_subtracter (carried most_not_on first x y n) (x n) (y n) (2 ^ n)))

-- a number of w bits, beside the bit above them (this belongs to bit_laws)
pub low-top : (w d s : ℕ) (b : Bool) → d < 2 ^ w → d + cond b (2 ^ w) 0 ≡ s → d ≡ low w s
low-top w d s true h e = let q : s ≡ 1 * 2 ^ w + d = omega arith in rw q (sym (mod-mul-add 1 (2 ^ w) d h))
low-top w d s false h e = let q : s ≡ 0 * 2 ^ w + d = omega arith in rw q (sym (mod-mul-add 0 (2 ^ w) d h))
