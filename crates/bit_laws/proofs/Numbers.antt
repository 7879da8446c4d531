-- Laws of numbers made of bits and of bytes.
use Rattle.std.proofs.Common.{◌≡◌, ℕ, zero, suc, ◌+◌, ◌-◌, ◌*◌, ◌/◌, ◌%◌, ◌^◌, ◌<◌, ◌≤◌, Bool, true, false, cond, eqb, refl, sym, ◌∙◌, arith, ⊎_elim}
use Rattle.std.specs.Int.{bit_at}
use Rattle.std.proofs.lemmas.Nat.{pow-add, mod-pow-add, shr-shr}
use Rattle.std.proofs.lemmas.Nat.Bits.{bit_at_cat_low, bit_at_cat_high, bit_at_above}
use Rattle.std.proofs.lemmas.Bool.{cases_lt}
use Rattle.std.proofs.Math.Nat.{mod-lt, pow-suc}
use Rattle.bit_laws.specs.Numbers.{number, low, bit_of, byte_of, little}

-- a number of n bits is below 2^n
pub number-lt : (n : ℕ) (f : ℕ → Bool) → number n f < 2 ^ n
number-lt zero f = omega arith
number-lt (suc n) f =
    elim (f n) as (λ b. number n f + cond b (2 ^ n) 0 < 2 ^ suc n) [
      | true ↦ omega (arith, number-lt n f, pow-suc 2 n)
      | false ↦ omega (arith, number-lt n f, pow-suc 2 n)
    ]

-- equal bits make equal numbers
pub number-same : (n : ℕ) (f g : ℕ → Bool) → ((i : ℕ) → i < n → f i ≡ g i) → number n f ≡ number n g
number-same zero f g same = refl
number-same (suc n) f g same = rw (same n (omega arith), number-same n f g (λ i below. same i (omega arith))) refl

top_low : (n a i : ℕ) → i < n → bit_at (a + 2 ^ n) i ≡ bit_at a i
top_low n a i below = let e : a + 2 ^ n ≡ 1 * 2 ^ n + a = omega arith in rw e (bit_at_cat_low 1 n a i below)

top_high : (n a : ℕ) → a < 2 ^ n → bit_at (a + 2 ^ n) n ≡ 1
top_high n a below =
    let e : a + 2 ^ n ≡ 1 * 2 ^ n + a = omega arith in
    let z : n - n ≡ 0 = omega arith in
    rw e (bit_at_cat_high 1 n a n below (omega arith) ∙ rw z refl)

add_nothing : (a i : ℕ) → bit_at (a + 0) i ≡ bit_at a i
add_nothing a i = let e : a + 0 ≡ a = omega arith in rw e refl

-- the bits of a number are those that it was made of
pub bit-number : (n : ℕ) (f : ℕ → Bool) (j : ℕ) → j < n → bit_of (number n f) j ≡ f j
bit-number zero f j inside = absurd (omega arith)
bit-number (suc n) f j inside =
    ⊎_elim
    (λ (lt : j < n).
    elim (f n) as (λ b. bit_of (number n f + cond b (2 ^ n) 0) j ≡ f j) [
      | true ↦ rw (top_low n (number n f) j lt) (bit-number n f j lt)
      | false ↦ rw (add_nothing (number n f) j) (bit-number n f j lt)
    ])
    (λ (ge : n ≤ j).
    let e : j ≡ n = omega arith in
    rw e (elim (f n) as (λ b. bit_of (number n f + cond b (2 ^ n) 0) n ≡ b) [
      | true ↦ rw (top_high n (number n f) (number-lt n f)) refl
      | false ↦ rw (add_nothing (number n f) n, bit_at_above (number n f) n n (number-lt n f) (omega arith)) refl
    ]))
    (cases_lt j n)

-- the number of the low bits of a number
pub number-bits : (w x : ℕ) → number w (bit_of x) ≡ low w x
number-bits zero x = omega arith
number-bits (suc n) x =
    let e : suc n ≡ 1 + n = omega arith in
    let d : x / 2 ^ n % 2 < 2 = mod-lt (x / 2 ^ n) (omega arith) in
    rw (number-bits n x, bits (x / 2 ^ n % 2) (2 ^ n) d, e, mod-pow-add x 1 n) (omega arith)
  where
    bits : (b p : ℕ) → b < 2 → cond (eqb b 1) p 0 ≡ b * p
    bits zero p below = omega arith
    bits (suc zero) p below = omega arith
    bits (suc (suc b)) p below = absurd (omega arith)

-- the bits of a number moved down
pub bit-down : (z a j : ℕ) → bit_of z (a + j) ≡ bit_of (z / 2 ^ a) j
bit-down z a j = rw (shr-shr z a j) refl

-- the number of n bits of a number from place a on
pub number-part : (z a n : ℕ) → number n (λ j. bit_of z (a + j)) ≡ z / 2 ^ a % 2 ^ n
number-part z a n =
    number-same n (λ j. bit_of z (a + j)) (bit_of (z / 2 ^ a)) (λ j below. bit-down z a j) ∙ number-bits n (z / 2 ^ a)

-- a byte of a number made of bits
pub byte-number : (n : ℕ) (f : ℕ → Bool) (k : ℕ) → 8 * k + 8 ≤ n → byte_of (number n f) k ≡ number 8 (λ b. f (8 * k + b))
byte-number n f k inside =
    sym (number-part (number n f) (8 * k) 8)
    ∙ number-same 8 (λ b. bit_of (number n f) (8 * k + b)) (λ b. f (8 * k + b)) (λ b below. bit-number n f (8 * k + b) (omega arith))

-- a number of bits in two parts
pub number-cat : (n m : ℕ) (f : ℕ → Bool) → number (n + m) f ≡ number n f + number m (λ j. f (n + j)) * 2 ^ n
number-cat n zero f = let e : n + 0 ≡ n = omega arith in rw e (omega arith)
number-cat n (suc m) f =
    let e : n + suc m ≡ suc (n + m) = omega arith in
    rw (e, number-cat n m f) (elim (f (n + m)) as (λ b. number n f + number m (λ j. f (n + j)) * 2 ^ n + cond b (2 ^ (n + m)) 0 ≡ number n f + (number m (λ j. f (n + j)) + cond b (2 ^ m) 0) * 2 ^ n) [
      | true ↦ rw (pow-add 2 n m) (omega arith)
      | false ↦ omega arith
    ])

-- the number of the bytes that bits make is the number of the bits
pub little-number : (n : ℕ) (f : ℕ → Bool) → little n (λ t. number 8 (λ b. f (8 * t + b))) ≡ number (8 * n) f
little-number zero f = refl
little-number (suc n) f =
    let e : 8 * suc n ≡ 8 * n + 8 = omega arith in
    rw (e, number-cat (8 * n) 8 f, ← little-number n f) refl

-- equal bytes make equal numbers
pub little-same : (n : ℕ) (f g : ℕ → ℕ) → ((t : ℕ) → t < n → f t ≡ g t) → little n f ≡ little n g
little-same zero f g same = refl
little-same (suc n) f g same = rw (same n (omega arith), little-same n f g (λ t below. same t (omega arith))) refl
