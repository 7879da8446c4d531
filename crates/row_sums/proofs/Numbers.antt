-- The numbers of sums and of differences, with and without a carry out, and of numbers with a sign.
use Rattle.std.proofs.Common.{◌≡◌, ℕ, ◌+◌, ◌-◌, ◌*◌, ◌^◌, ◌<◌, ◌≤◌, Bool, true, false, cond, not, ltb, ◌&&◌, pos, negsuc, ◌-ℤ◌, zero, suc, refl, sym, ◌∙◌, arith, ⊎_elim}
use Rattle.std.proofs.Math.Nat.{pow-suc, mod-eq_of_lt, add-mul-mod_self_right}
use Rattle.std.proofs.lemmas.Bool.{cases_lt, lt-ltb, le-ltb}
use Rattle.std.proofs.lemmas.Int.{ints}
use Rattle.std.proofs.lemmas.Nat.{pow_pos}
use Rattle.bit_laws.specs.Numbers.{number, low}
use Rattle.bit_laws.proofs.Numbers.{number-same, number-lt}
use Rattle.gen_arith.specs.Recipes.{odd_on, most_on, borrow_on}
use Rattle.gen_arith.proofs.Rows.{finds, carried}
use Rattle.gen_arith.proofs.Numbers.{adder, sum_digits, low-top}
use Rattle.bit_laws.specs.Rounding.{low_int}
use Rattle.row_sums.proofs.Totals.{Totalled}

pub total-sum : (w d k : ℕ) (x y : ℕ → Bool) (now : ℕ → ℕ → Bool) → Totalled w d k odd_on most_on x y now
    → number w (now d) + cond (now k (w - 1)) (2 ^ w) 0 ≡ number w x + number w y
total-sum w d k x y now t =
    rw (number-same w (now d) (sum_digits false x y) (λ i l. t.digits i l), t.top) (omega (arith, adder w x y false))

full_borrower : (c x y : Bool) (p : ℕ) → cond (finds odd_on c x y) p 0 + (cond c p 0 + cond y p 0) ≡ cond x p 0 + cond (finds borrow_on c x y) (p * 2) 0
full_borrower true true true p = omega arith
full_borrower true true false p = omega arith
full_borrower true false true p = omega arith
full_borrower true false false p = omega arith
full_borrower false true true p = omega arith
full_borrower false true false p = omega arith
full_borrower false false true p = omega arith
full_borrower false false false p = omega arith

-- the digits of a difference that starts without a borrow
abbrev pub borrow_digits : (x y : ℕ → Bool) → ℕ → Bool
borrow_digits x y i = finds odd_on (carried borrow_on false x y i) (x i) (y i)

pub borrower : (n : ℕ) (x y : ℕ → Bool) → number n (borrow_digits x y) + number n y ≡ number n x + cond (carried borrow_on false x y n) (2 ^ n) 0
borrower zero x y = refl
borrower (suc n) x y = rw (pow-suc 2 n) (omega (arith, borrower n x y, full_borrower (carried borrow_on false x y n) (x n) (y n) (2 ^ n)))

pub total-difference : (w d k : ℕ) (x y : ℕ → Bool) (now : ℕ → ℕ → Bool) → Totalled w d k odd_on borrow_on x y now
    → number w (now d) + number w y ≡ number w x + cond (now k (w - 1)) (2 ^ w) 0
total-difference w d k x y now t =
    rw (number-same w (now d) (borrow_digits x y) (λ i l. t.digits i l), t.top) (borrower w x y)

-- a row where a bit is 1, else 0
pub gated-number : (n : ℕ) (x s : ℕ → Bool) (b : Bool) → ((i : ℕ) → i < n → s i ≡ b) → number n (λ i. x i && s i) ≡ cond b (number n x) 0
gated-number zero x s true is = refl
gated-number zero x s false is = refl
gated-number (suc n) x s b is = rw (gated-number n x s b (λ i l. is i (omega arith)), is n (omega arith)) (bits b (x n) (number n x) (2 ^ n))
  where
    bits : (b x : Bool) (m p : ℕ) → cond b m 0 + cond (x && b) p 0 ≡ cond b (m + cond x p 0) 0
    bits true true m p = refl
    bits true false m p = refl
    bits false true m p = refl
    bits false false m p = refl

-- a clear row
pub number-none : (n : ℕ) (f : ℕ → Bool) → ((i : ℕ) → i < n → f i ≡ false) → number n f ≡ 0
number-none zero f h = refl
number-none (suc n) f h = rw (h n (omega arith), number-none n f (λ i l. h i (omega arith))) refl

-- the number of a sum that starts with a carry
pub sum-low : (w : ℕ) (z x y : ℕ → Bool) (first : Bool) → ((i : ℕ) → i < w → z i ≡ sum_digits first x y i) → number w z ≡ low w (number w x + number w y + cond first 1 0)
sum-low w z x y first is =
    number-same w z (sum_digits first x y) is
    ∙ low-top w (number w (sum_digits first x y)) (number w x + number w y + cond first 1 0) (carried most_on first x y w) (number-lt w (sum_digits first x y)) (adder w x y first)

-- of a difference that starts without a borrow
pub difference-low : (w : ℕ) (z x y : ℕ → Bool) → ((i : ℕ) → i < w → z i ≡ borrow_digits x y i) → number w z ≡ low w (number w x + (2 ^ w - number w y))
difference-low w z x y is = number-same w z (borrow_digits x y) is ∙ turned (carried borrow_on false x y w) (borrower w x y)
  where
    small : number w y < 2 ^ w
    small = number-lt w y

    turned : (b : Bool) → number w (borrow_digits x y) + number w y ≡ number w x + cond b (2 ^ w) 0 → number w (borrow_digits x y) ≡ low w (number w x + (2 ^ w - number w y))
    turned true h = low-top w (number w (borrow_digits x y)) (number w x + (2 ^ w - number w y)) false (number-lt w (borrow_digits x y)) (omega (arith, small))
    turned false h = low-top w (number w (borrow_digits x y)) (number w x + (2 ^ w - number w y)) true (number-lt w (borrow_digits x y)) (omega (arith, small))

-- the bits of a number inverted
pub not-number : (n : ℕ) (f : ℕ → Bool) → number n (λ i. not (f i)) + number n f + 1 ≡ 2 ^ n
not-number zero f = refl
not-number (suc n) f = rw (pow-suc 2 n) (cases (f n) (number n (λ i. not (f i))) (number n f) (2 ^ n) (not-number n f))
  where
    cases : (b : Bool) (x y p : ℕ) → x + y + 1 ≡ p → (x + cond (not b) p 0) + (y + cond b p 0) + 1 ≡ p * 2
    cases true x y p h = omega arith
    cases false x y p h = omega arith

-- ---- signs

-- whether the number of w bits is negative
abbrev pub negative : (w n : ℕ) → Bool
negative w n = not (ltb n (2 ^ (w - 1)))

pub top-negative : (w : ℕ) (x : ℕ → Bool) → 0 < w → x (w - 1) ≡ negative w (number w x)
top-negative zero x some = absurd (omega arith)
top-negative (suc n) x some =
    let z : suc n - 1 ≡ n = omega arith in
    rw z (cases (x n) (number n x) (2 ^ n) (number-lt n x))
  where
    cases : (b : Bool) (m p : ℕ) → m < p → b ≡ not (ltb (m + cond b p 0) p)
    cases true m p l = rw (le-ltb (m + p) p (omega arith)) refl
    cases false m p l = rw (lt-ltb (m + 0) p (omega arith)) refl

-- what w bits keep of a difference
pub low-shift : (w p k : ℕ) → k ≤ 2 ^ w → low_int w (pos p -ℤ pos k) ≡ low w (p + (2 ^ w - k))
low-shift w p k h =
    ⊎_elim
    (λ (l : p < k).
    let d : ℕ = k - p - 1 in
    let q : pos p -ℤ pos k ≡ negsuc (k - p - 1) = omega (arith, ints) in
    let some : 0 < 2 ^ w = pow_pos w in
    let m : low w (k - p - 1) ≡ k - p - 1 = mod-eq_of_lt (omega arith) in
    let n : low w (p + (2 ^ w - k)) ≡ p + (2 ^ w - k) = mod-eq_of_lt (omega arith) in
    rw (q, m, n) (omega arith))
    (λ (l : k ≤ p).
    let q : pos p -ℤ pos k ≡ pos (p - k) = omega (arith, ints) in
    let s : p + (2 ^ w - k) ≡ p - k + 1 * 2 ^ w = omega arith in
    rw (q, s) (sym (add-mul-mod_self_right (p - k) 1 (2 ^ w))))
    (cases_lt p k)
