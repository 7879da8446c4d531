-- The product of two numbers with signs: its low bits, and how large it is.
use Rattle.std.proofs.Common.{◌≡◌, ℕ, ℤ, pos, negsuc, neg_ℤ, ◌+◌, ◌-◌, ◌*◌, ◌/◌, ◌%◌, ◌^◌, ◌<◌, ◌≤◌, ◌-ℤ◌, ◌*ℤ◌, Bool, ltb, cond, zero, suc, refl, sym, ◌∙◌, ap, arith, ⊎_elim}
use Rattle.std.specs.Int.{int_div_euclid, int_shr}
use Rattle.std.proofs.Math.Nat.{mod-add-div', mod-lt, pow-suc, mul-le-mul}
use Rattle.std.proofs.Math.IntN.{*ℤ_comm, negsuc-*ℤ-pos, pos-*ℤ-negsuc}
use Rattle.std.proofs.lemmas.Bool.{cases_lt, lt-ltb, le-ltb}
use Rattle.std.proofs.lemmas.Int.{ints}
use Rattle.std.proofs.lemmas.Nat.{mod-mul-add, pow_pos}
use Rattle.bit_laws.specs.Numbers.{number, low, bit_of}
use Rattle.bit_laws.specs.Rounding.{bit_of_int, low_int}
use Rattle.bit_laws.specs.Signed.{signed}
use Rattle.bit_laws.proofs.Numbers.{bit-number}
use Rattle.bit_laws.proofs.Ints.{number-int, number-shr}
use Rattle.gen_mul.proofs.Whole.{times, below, low-past}

-- ---- its low bits

-- what w bits keep of a number less so many times 2^w
low-minus : (w n k : ℕ) → low_int w (pos n -ℤ pos (k * 2 ^ w)) ≡ low w n
low-minus w n k = by (2 ^ w) (pow_pos w) refl
  where
    by : (m : ℕ) → 0 < m → 2 ^ w ≡ m → low_int w (pos n -ℤ pos (k * m)) ≡ n % 2 ^ w
    by m h is =
        let e = mod-add-div' n m in
        let l : n % m < m = mod-lt n h in
        rw is (⊎_elim
        (λ (s : n / m < k).
        let d : ℕ = k - n / m - 1 in
        let t : k ≡ n / m + (d + 1) = omega arith in
        let g : k * m ≡ (n / m + (d + 1)) * m = ap (λ (x : ℕ). x * m) t in
        let q : pos n -ℤ pos (k * m) ≡ negsuc (d * m + (m - 1 - n % m)) = omega (arith, ints) in
        let v : (d * m + (m - 1 - n % m)) % m ≡ m - 1 - n % m = mod-mul-add d m (m - 1 - n % m) (omega arith) in
        rw (q, is, v) (omega (arith, l)))
        (λ (s : k ≤ n / m).
        let d : ℕ = n / m - k in
        let t : n / m ≡ k + d = omega arith in
        let g : n / m * m ≡ (k + d) * m = ap (λ (x : ℕ). x * m) t in
        let q : pos n -ℤ pos (k * m) ≡ pos (d * m + n % m) = omega (arith, ints) in
        rw (q, is) (mod-mul-add d m (n % m) l))
        (cases_lt (n / m) k))

low-at : (w a b x y : ℕ) → 2 ^ w ≡ a + suc x → 2 ^ w ≡ b + suc y → low_int w (signed w a *ℤ signed w b) ≡ low w (a * b)
low-at w a b x y ea eb =
    let turned : b * a ≡ a * b = omega arith in
    ⊎_elim
    (λ (s : a < 2 ^ (w - 1)).
    ⊎_elim
    (λ (t : b < 2 ^ (w - 1)). rw (lt-ltb a (2 ^ (w - 1)) s, lt-ltb b (2 ^ (w - 1)) t) refl)
    (λ (t : 2 ^ (w - 1) ≤ b).
    rw (lt-ltb a (2 ^ (w - 1)) s, le-ltb b (2 ^ (w - 1)) t, *ℤ_comm (pos a) (pos b -ℤ pos (2 ^ w)), times b (2 ^ w) a (omega arith), turned) (low-minus w (a * b) a))
    (cases_lt b (2 ^ (w - 1))))
    (λ (s : 2 ^ (w - 1) ≤ a).
    ⊎_elim
    (λ (t : b < 2 ^ (w - 1)). rw (le-ltb a (2 ^ (w - 1)) s, lt-ltb b (2 ^ (w - 1)) t, times a (2 ^ w) b (omega arith)) (low-minus w (a * b) b))
    (λ (t : 2 ^ (w - 1) ≤ b). rw (le-ltb a (2 ^ (w - 1)) s, le-ltb b (2 ^ (w - 1)) t, below (2 ^ w) a x ea, below (2 ^ w) b y eb) both)
    (cases_lt b (2 ^ (w - 1))))
    (cases_lt a (2 ^ (w - 1)))
  where
    both : low w (suc x * suc y) ≡ low w (a * b)
    both =
        let g : (a + suc x) * (b + suc y) ≡ 2 ^ w * 2 ^ w = rw (sym ea, sym eb) refl in
        let ga : a * (b + suc y) ≡ a * 2 ^ w = ap (λ (z : ℕ). a * z) (sym eb) in
        let gb : b * (a + suc x) ≡ b * 2 ^ w = ap (λ (z : ℕ). b * z) (sym ea) in
        let t : suc x * suc y + (a + b) * 2 ^ w ≡ a * b + 2 ^ w * 2 ^ w = omega arith in
        sym (low-past (suc x * suc y + (a + b) * 2 ^ w) (suc x * suc y) (a + b) (2 ^ w) refl)
        ∙ ap (λ (z : ℕ). z % 2 ^ w) t ∙ low-past (a * b + 2 ^ w * 2 ^ w) (a * b) (2 ^ w) (2 ^ w) refl

pub low-product : (w a b : ℕ) → a < 2 ^ w → b < 2 ^ w → low_int w (signed w a *ℤ signed w b) ≡ low w (a * b)
low-product w a b la lb = low-at w a b (2 ^ w - a - 1) (2 ^ w - b - 1) (omega arith) (omega arith)

-- the quotient by 2^w, rounded down
pub shr-euclid : (z : ℤ) (w : ℕ) → int_div_euclid z (pos (2 ^ w)) ≡ int_shr z w
shr-euclid (pos n) w = refl
shr-euclid (negsuc n) w = refl

-- ---- its bits

same-bits : (w : ℕ) (f g : ℕ → Bool) → number w f ≡ number w g → (j : ℕ) → j < w → f j ≡ g j
same-bits w f g same j l = sym (bit-number w f j l) ∙ ap (λ (n : ℕ). bit_of n j) same ∙ bit-number w g j l

pub low-bits : (w : ℕ) (z : ℤ) (f : ℕ → Bool) → number w f ≡ low_int w z → (j : ℕ) → j < w → f j ≡ bit_of_int z j
low-bits w z f is = same-bits w f (bit_of_int z) (is ∙ sym (number-int w z))

pub high-bits : (w : ℕ) (z : ℤ) (f : ℕ → Bool) → number w f ≡ low_int w (int_shr z w) → (j : ℕ) → j < w → f j ≡ bit_of_int z (w + j)
high-bits w z f is = same-bits w f (λ j. bit_of_int z (w + j)) (is ∙ sym (number-shr w z w))

-- ---- how large it is

-- h is the largest magnitude of a factor
module _ (h : ℕ) (some : 0 < h) where
  product : (x y : ℕ) → x ≤ h → y ≤ h → x * y ≤ h * h
  product x y p q = mul-le-mul {n₁ = x} {m₁ = y} {n₂ = h} {m₂ = h} p q

  nearly : (x y : ℕ) → x < h → y ≤ h → x * y + h ≤ h * h
  nearly x y p q =
      let r : suc x * h ≤ h * h = mul-le-mul {n₁ = suc x} {m₁ = h} {n₂ = h} {m₂ = h} p (omega arith) in
      let s : x * y ≤ x * h = mul-le-mul {n₁ = x} {m₁ = y} {n₂ = x} {m₂ = h} (omega arith) q in
      omega (arith, r, s)

  module _ (P : ℤ → Type 0) (small : (m : ℕ) → m + h ≤ h * h → P (pos m)) (less : (m : ℕ) → m < h * h → P (negsuc m)) (most : P (pos (h * h))) where
    opposite : (t : ℕ) → t ≤ h * h → P (neg_ℤ (pos t))
    opposite zero l = small 0 (let r : 1 * h ≤ h * h = mul-le-mul {n₁ = 1} {m₁ = h} {n₂ = h} {m₂ = h} some (omega arith) in omega (arith, r))
    opposite (suc m) l = less m (omega (arith, l))

    squares : (x y : ℕ) → x ≤ h → y ≤ h → P (pos (x * y))
    squares x y p q = ⊎_elim
        (λ (l : x < h). small (x * y) (nearly x y l q))
        (λ (l : h ≤ x). ⊎_elim
        (λ (k : y < h). small (x * y) (let r = nearly y x k p in let e : x * y ≡ y * x = omega arith in omega (arith, r, e)))
        (λ (k : h ≤ y). let e : x ≡ h = omega arith in let f : y ≡ h = omega arith in rw (e, f) most)
        (cases_lt y h))
        (cases_lt x h)

    pub signs : (a b m : ℕ) → m ≡ h + h → a < m → b < m
        → P (cond (ltb a h) (pos a) (pos a -ℤ pos m) *ℤ cond (ltb b h) (pos b) (pos b -ℤ pos m))
    signs a b m twice la lb =
        ⊎_elim
        (λ (s : a < h). ⊎_elim
        (λ (t : b < h). rw (lt-ltb a h s, lt-ltb b h t) (small (a * b) (nearly a b s (omega arith))))
        (λ (t : h ≤ b). rw (lt-ltb a h s, le-ltb b h t, below m b (m - b - 1) (omega arith), pos-*ℤ-negsuc a (m - b - 1))
        (opposite (a * suc (m - b - 1)) (product a (suc (m - b - 1)) (omega arith) (omega arith))))
        (cases_lt b h))
        (λ (s : h ≤ a). ⊎_elim
        (λ (t : b < h). rw (le-ltb a h s, lt-ltb b h t, below m a (m - a - 1) (omega arith), negsuc-*ℤ-pos (m - a - 1) b)
        (opposite (suc (m - a - 1) * b) (product (suc (m - a - 1)) b (omega arith) (omega arith))))
        (λ (t : h ≤ b). rw (le-ltb a h s, le-ltb b h t, below m a (m - a - 1) (omega arith), below m b (m - b - 1) (omega arith))
        (squares (suc (m - a - 1)) (suc (m - b - 1)) (omega arith) (omega arith)))
        (cases_lt b h))
        (cases_lt a h)

-- At most h less one times h, negative and above the square's opposite, or the square of h, where both factors are the least
-- number.
pub sized : (n a b : ℕ) → a < 2 ^ suc n → b < 2 ^ suc n → (P : ℤ → Type 0)
    → ((m : ℕ) → m + 2 ^ n ≤ 2 ^ n * 2 ^ n → P (pos m)) → ((m : ℕ) → m < 2 ^ n * 2 ^ n → P (negsuc m)) → P (pos (2 ^ n * 2 ^ n))
    → P (signed (suc n) a *ℤ signed (suc n) b)
sized n a b la lb P small less most =
    let z : suc n - 1 ≡ n = omega arith in
    let d : 2 ^ suc n ≡ 2 ^ n * 2 = pow-suc 2 n in
    rw z (signs (2 ^ n) (pow_pos n) P small less most a b (2 ^ suc n) (omega (arith, d)) la lb)
