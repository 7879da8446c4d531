-- The high halves as whole numbers.
use Rattle.std.proofs.Common.{◌≡◌, ℕ, pos, negsuc, ◌+◌, ◌-◌, ◌*◌, ◌/◌, ◌%◌, ◌^◌, ◌<◌, ◌≤◌, ◌-ℤ◌, ◌*ℤ◌, cond, suc, refl, sym, ◌∙◌, ap, arith, ⊎_elim}
use Rattle.std.specs.Int.{int_div_euclid}
use Rattle.std.proofs.Math.Nat.{mul-add-mod_self_right, add-mul-div_right, mod-add-div', mod-lt, add-mul-mod_self_right}
use Rattle.std.proofs.Math.IntN.{negsuc-*ℤ-pos, *ℤ_comm}
use Rattle.std.proofs.lemmas.Bool.{cases_lt, lt-ltb, le-ltb}
use Rattle.std.proofs.lemmas.Int.{ints}
use Rattle.std.proofs.lemmas.Nat.{div-mul-add, pow_pos}
use Rattle.bit_laws.specs.Numbers.{low}
use Rattle.bit_laws.specs.Signed.{signed}
use Rattle.row_sums.proofs.Numbers.{negative, low-shift}
use Rattle.gen_mul.specs.Kinds.{high_part}
use Rattle.gen_mul.proofs.Signs.{high_first, high_both}

floor-shift : (n k m : ℕ) → 0 < m → int_div_euclid (pos n -ℤ pos (k * m)) (pos m) ≡ pos (n / m) -ℤ pos k
floor-shift n k m h =
    let e = mod-add-div' n m in
    let l : n % m < m = mod-lt n h in
    ⊎_elim
    (λ (s : n / m < k).
    let d : ℕ = k - n / m - 1 in
    let t : k ≡ n / m + (d + 1) = omega arith in
    let g : k * m ≡ (n / m + (d + 1)) * m = ap (λ (x : ℕ). x * m) t in
    let q : pos n -ℤ pos (k * m) ≡ negsuc (d * m + (m - 1 - n % m)) = omega (arith, ints) in
    let v : (d * m + (m - 1 - n % m)) / m ≡ d = div-mul-add d m (m - 1 - n % m) (omega arith) in
    rw (q, v) (omega (arith, ints)))
    (λ (s : k ≤ n / m).
    let d : ℕ = n / m - k in
    let t : n / m ≡ k + d = omega arith in
    let g : n / m * m ≡ (k + d) * m = ap (λ (x : ℕ). x * m) t in
    let q : pos n -ℤ pos (k * m) ≡ pos (d * m + n % m) = omega (arith, ints) in
    let v : (d * m + n % m) / m ≡ d = div-mul-add d m (n % m) l in
    rw (q, v) (omega (arith, ints)))
    (cases_lt (n / m) k)

-- a negative number by a natural one
pub times : (a m b : ℕ) → a < m → (pos a -ℤ pos m) *ℤ pos b ≡ pos (a * b) -ℤ pos (b * m)
times a m b l =
    let x : ℕ = m - a - 1 in
    let t : m ≡ a + suc x = omega arith in
    let g : b * m ≡ b * (a + suc x) = ap (λ (z : ℕ). b * z) t in
    let q : pos a -ℤ pos m ≡ negsuc x = omega (arith, ints) in
    rw (q, negsuc-*ℤ-pos x b, g) (omega (arith, ints))

pub mulhsu-whole : (w a b : ℕ) → a < 2 ^ w → b < 2 ^ w → low w (high_first w a b) ≡ high_part w (signed w a *ℤ pos b)
mulhsu-whole w a b la lb =
    ⊎_elim
    (λ (s : a < 2 ^ (w - 1)).
    let z : a * b / 2 ^ w + (2 ^ w - 0) ≡ a * b / 2 ^ w + 1 * 2 ^ w = omega arith in
    rw (lt-ltb a (2 ^ (w - 1)) s, z) (add-mul-mod_self_right (a * b / 2 ^ w) 1 (2 ^ w)))
    (λ (s : 2 ^ (w - 1) ≤ a).
    rw (le-ltb a (2 ^ (w - 1)) s, times a (2 ^ w) b la, floor-shift (a * b) b (2 ^ w) (pow_pos w)) (sym (low-shift w (a * b / 2 ^ w) b (omega arith))))
    (cases_lt a (2 ^ (w - 1)))

pub below : (m a x : ℕ) → m ≡ a + suc x → pos a -ℤ pos m ≡ negsuc x
below m a x e = omega (arith, ints)

-- ---- the high half where both have signs

low-add : (x y m : ℕ) → (x % m + y) % m ≡ (x + y) % m
low-add x y m =
    let e = mod-add-div' x m in
    let s : x + y ≡ x / m * m + (x % m + y) = omega arith in
    sym (ap (λ (z : ℕ). z % m) s ∙ mul-add-mod_self_right (x / m) m (x % m + y))

pub low-past : (x y z m : ℕ) → x ≡ y + z * m → x % m ≡ y % m
low-past x y z m e = ap (λ (u : ℕ). u % m) e ∙ add-mul-mod_self_right y z m

-- both negative
both : (w a b x y : ℕ) → 2 ^ w ≡ a + suc x → 2 ^ w ≡ b + suc y
    → (a * b / 2 ^ w + (2 ^ w - b)) + (2 ^ w - a) ≡ suc x * suc y / 2 ^ w + 1 * 2 ^ w
both w a b x y ea eb =
    let m : ℕ = 2 ^ w in
    let g : (a + suc x) * (b + suc y) ≡ 2 ^ w * 2 ^ w = rw (sym ea, sym eb) refl in
    let ga : a * (b + suc y) ≡ a * 2 ^ w = ap (λ (z : ℕ). a * z) (sym eb) in
    let gb : b * (a + suc x) ≡ b * 2 ^ w = ap (λ (z : ℕ). b * z) (sym ea) in
    let t : suc x * suc y + (a + b) * 2 ^ w ≡ a * b + 2 ^ w * 2 ^ w = omega arith in
    let p : (suc x * suc y + (a + b) * 2 ^ w) / 2 ^ w ≡ suc x * suc y / 2 ^ w + (a + b) = add-mul-div_right (suc x * suc y) (a + b) (pow_pos w) in
    let q : (a * b + 2 ^ w * 2 ^ w) / 2 ^ w ≡ a * b / 2 ^ w + 2 ^ w = add-mul-div_right (a * b) (2 ^ w) (pow_pos w) in
    let r : suc x * suc y / 2 ^ w + (a + b) ≡ a * b / 2 ^ w + 2 ^ w = sym p ∙ ap (λ (z : ℕ). z / 2 ^ w) t ∙ q in
    omega arith

mulh-at : (w a b x y : ℕ) → 2 ^ w ≡ a + suc x → 2 ^ w ≡ b + suc y → low w (high_both w a b) ≡ high_part w (signed w a *ℤ signed w b)
mulh-at w a b x y ea eb =
    let p : ℕ = a * b / 2 ^ w in
    let h = 2 ^ (w - 1) in
    let turned : b * a ≡ a * b = omega arith in
    low-add (high_first w a b) (2 ^ w - cond (negative w b) a 0) (2 ^ w)
    ∙ ⊎_elim
    (λ (s : a < 2 ^ (w - 1)).
    ⊎_elim
    (λ (t : b < 2 ^ (w - 1)). rw (lt-ltb a (2 ^ (w - 1)) s, lt-ltb b (2 ^ (w - 1)) t) (low-past (a * b / 2 ^ w + (2 ^ w - 0) + (2 ^ w - 0)) (a * b / 2 ^ w) 2 (2 ^ w) (omega arith)))
    (λ (t : 2 ^ (w - 1) ≤ b). rw (lt-ltb a (2 ^ (w - 1)) s, le-ltb b (2 ^ (w - 1)) t, *ℤ_comm (pos a) (pos b -ℤ pos (2 ^ w)), times b (2 ^ w) a (omega arith), floor-shift (b * a) a (2 ^ w) (pow_pos w), turned)
    (low-past (a * b / 2 ^ w + (2 ^ w - 0) + (2 ^ w - a)) (a * b / 2 ^ w + (2 ^ w - a)) 1 (2 ^ w) (omega arith) ∙ sym (low-shift w (a * b / 2 ^ w) a (omega arith))))
    (cases_lt b (2 ^ (w - 1))))
    (λ (s : 2 ^ (w - 1) ≤ a).
    ⊎_elim
    (λ (t : b < 2 ^ (w - 1)). rw (le-ltb a (2 ^ (w - 1)) s, lt-ltb b (2 ^ (w - 1)) t, times a (2 ^ w) b (omega arith), floor-shift (a * b) b (2 ^ w) (pow_pos w))
    (low-past (a * b / 2 ^ w + (2 ^ w - b) + (2 ^ w - 0)) (a * b / 2 ^ w + (2 ^ w - b)) 1 (2 ^ w) (omega arith) ∙ sym (low-shift w (a * b / 2 ^ w) b (omega arith))))
    (λ (t : 2 ^ (w - 1) ≤ b). rw (le-ltb a (2 ^ (w - 1)) s, le-ltb b (2 ^ (w - 1)) t, below (2 ^ w) a x ea, below (2 ^ w) b y eb)
    (low-past (a * b / 2 ^ w + (2 ^ w - b) + (2 ^ w - a)) (suc x * suc y / 2 ^ w) 1 (2 ^ w) (both w a b x y ea eb)))
    (cases_lt b (2 ^ (w - 1))))
    (cases_lt a (2 ^ (w - 1)))

pub mulh-whole : (w a b : ℕ) → a < 2 ^ w → b < 2 ^ w → low w (high_both w a b) ≡ high_part w (signed w a *ℤ signed w b)
mulh-whole w a b la lb = mulh-at w a b (2 ^ w - a - 1) (2 ^ w - b - 1) (omega arith) (omega arith)
