-- Numbers with a sign, by their bits.
use Rattle.std.proofs.Common.{◌≡◌, ℕ, zero, suc, ◌+◌, ◌-◌, ◌*◌, ◌^◌, ◌<◌, ◌≤◌, Bool, true, false, cond, not, ltb, ℤ, pos, negsuc, ◌-ℤ◌, refl, sym, ap, ◌∙◌, arith, ⊎_elim}
use Rattle.std.specs.Int.{int_shr}
use Rattle.std.proofs.lemmas.Int.{ints}
use Rattle.std.proofs.lemmas.Nat.{mod-mul-add, pow_pos}
use Rattle.std.proofs.lemmas.Nat.Bits.{bit_at_above}
use Rattle.std.proofs.lemmas.Bool.{cases_lt, lt-ltb, le-ltb}
use Rattle.std.proofs.Math.Nat.{pow-suc, mod-lt}
use Rattle.bit_laws.specs.Numbers.{number, low, bit_of}
use Rattle.bit_laws.specs.Signed.{signed}
use Rattle.bit_laws.specs.Rounding.{bit_of_int, low_int}
use Rattle.bit_laws.proofs.Numbers.{number-lt, number-same, number-bits, bit-number, bit-down}

-- a number and that of its bits inverted
pub inverts : (w : ℕ) (f : ℕ → Bool) → number w f + number w (λ j. not (f j)) + 1 ≡ 2 ^ w
inverts zero f = omega arith
inverts (suc n) f =
    rw (pow-suc 2 n) (elim (f n) as (λ b. number n f + cond b (2 ^ n) 0 + (number n (λ j. not (f j)) + cond (not b) (2 ^ n) 0) + 1 ≡ 2 ^ n * 2) [
      | true ↦ omega (arith, inverts n f)
      | false ↦ omega (arith, inverts n f)
    ])

-- the number of the low bits
pub number-int : (w : ℕ) (z : ℤ) → number w (bit_of_int z) ≡ low_int w z
number-int w (pos n) = number-bits w n
number-int w (negsuc n) =
    let e = inverts w (bit_of n) in
    let f : number w (bit_of n) ≡ low w n = number-bits w n in
    omega (arith, e, f)

pub bit-shr : (z : ℤ) (n j : ℕ) → bit_of_int z (n + j) ≡ bit_of_int (int_shr z n) j
bit-shr (pos m) n j = bit-down m n j
bit-shr (negsuc m) n j = ap not (bit-down m n j)

-- the number of w bits from place n on is the quotient by 2^n, rounded down
pub number-shr : (w : ℕ) (z : ℤ) (n : ℕ) → number w (λ i. bit_of_int z (n + i)) ≡ low_int w (int_shr z n)
number-shr w z n = number-same w (λ i. bit_of_int z (n + i)) (bit_of_int (int_shr z n)) (λ i l. bit-shr z n i) ∙ number-int w (int_shr z n)

pub minus-zero : (a : ℕ) → pos a -ℤ pos 0 ≡ pos a
minus-zero a = omega (arith, ints)

pub minus-more : (a b p : ℕ) → a + b + 1 ≡ p → pos a -ℤ pos p ≡ negsuc b
minus-more a b p e = omega (arith, ints)

not_not : (b : Bool) → not (not b) ≡ b
not_not true = refl
not_not false = refl

pub above-none : (n w j : ℕ) → n < 2 ^ w → w ≤ j → bit_of n j ≡ false
above-none n w j small above = rw (bit_at_above n w j small above) refl

-- the number of w bits f below sign bits k
abbrev pub with_sign : (w : ℕ) (f : ℕ → Bool) (k : Bool) → ℤ
with_sign w f k = pos (number w f) -ℤ pos (cond k (2 ^ w) 0)

pub bit-signed : (w : ℕ) (f : ℕ → Bool) (k : Bool) (j : ℕ) → bit_of_int (with_sign w f k) j ≡ cond (ltb j w) (f j) k
bit-signed w f true j =
    let g : ℕ → Bool = λ i. not (f i) in
    rw (minus-more (number w f) (number w g) (2 ^ w) (inverts w f)) (⊎_elim
    (λ (l : j < w). rw (lt-ltb j w l, bit-number w g j l) (not_not (f j)))
    (λ (l : w ≤ j). rw (le-ltb j w l, above-none (number w g) w j (number-lt w g) l) refl)
    (cases_lt j w))
bit-signed w f false j =
    ap (λ z. bit_of_int z j) (minus-zero (number w f)) ∙ (⊎_elim
    (λ (l : j < w). rw (lt-ltb j w l) (bit-number w f j l))
    (λ (l : w ≤ j). rw (le-ltb j w l) (above-none (number w f) w j (number-lt w f) l))
    (cases_lt j w))

pub low-small : (w n : ℕ) → n < 2 ^ w → low w n ≡ n
low-small w n l = let z : n ≡ 0 * 2 ^ w + n = omega arith in ap (low w) z ∙ mod-mul-add 0 (2 ^ w) n l

pub int-lt : (w : ℕ) (z : ℤ) → low_int w z < 2 ^ w
int-lt w (pos n) = mod-lt n (pow_pos w)
int-lt w (negsuc n) = let p : 0 < 2 ^ w = pow_pos w in omega arith

pub int-low : (w : ℕ) (z : ℤ) → low_int w z ≡ low w (low_int w z)
int-low w z = sym (low-small w (low_int w z) (int-lt w z))

-- the number of the bits without a sign, and with their highest bit as the sign
pub unsigned-is : (w : ℕ) (x : ℕ → Bool) → with_sign w x false ≡ pos (number w x)
unsigned-is w x = minus-zero (number w x)

pub signed-is : (w : ℕ) (x : ℕ → Bool) → 0 < w → with_sign w x (x (w - 1)) ≡ signed w (number w x)
signed-is zero x some = absurd (omega arith)
signed-is (suc m) x some =
    let z : suc m - 1 ≡ m = omega arith in
    let small = number-lt m x in
    rw (z, pow-suc 2 m) (elim (x m) as (λ b. pos (number m x + cond b (2 ^ m) 0) -ℤ pos (cond b (2 ^ m * 2) 0) ≡ cond (ltb (number m x + cond b (2 ^ m) 0) (2 ^ m)) (pos (number m x + cond b (2 ^ m) 0)) (pos (number m x + cond b (2 ^ m) 0) -ℤ pos (2 ^ m * 2))) [
      | true ↦ rw (le-ltb (number m x + 2 ^ m) (2 ^ m) (omega arith)) refl
      | false ↦ rw (lt-ltb (number m x + 0) (2 ^ m) (omega arith)) (minus-zero (number m x + 0))
    ])
