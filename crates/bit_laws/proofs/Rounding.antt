-- Rounding, once for all kinds: which bits stand in a quotient and below it makes which number.
use Rattle.std.proofs.Common.{◌≡◌, ℕ, zero, suc, ◌+◌, ◌-◌, ◌*◌, ◌/◌, ◌%◌, ◌^◌, ◌<◌, ◌≤◌, Bool, true, false, ℤ, pos, negsuc, ◌+ℤ◌, refl, sym, ap, ◌∙◌, arith, ⊎_elim}
use Rattle.std.specs.Int.{int_shr, from_bool}
use Rattle.std.proofs.lemmas.Int.{ints}
use Rattle.std.proofs.lemmas.Nat.{mod-mul-add, pow_pos}
use Rattle.std.proofs.lemmas.Bool.{cases_lt}
use Rattle.std.proofs.Math.Nat.{mod-lt, mod-add-div'}
use Rattle.bit_laws.specs.Numbers.{low}
use Rattle.bit_laws.specs.Rounding.{bit_of_int, low_int, increment, rounded, last_out, more_out}
use Rattle.bit_laws.proofs.Ints.{low-small, int-lt}

-- ---- one more

low-more : (w n : ℕ) → low w (n + 1) ≡ low w (low w n + 1)
low-more w n =
    let p : 0 < 2 ^ w = pow_pos w in
    let s = mod-add-div' n (2 ^ w) in
    let b : n % 2 ^ w < 2 ^ w = mod-lt n p in
    ⊎_elim
    (λ (l : n % 2 ^ w + 1 < 2 ^ w).
    let e : n + 1 ≡ n / 2 ^ w * 2 ^ w + (n % 2 ^ w + 1) = omega arith in
    let z : n % 2 ^ w + 1 ≡ 0 * 2 ^ w + (n % 2 ^ w + 1) = omega arith in
    ap (low w) e ∙ mod-mul-add (n / 2 ^ w) (2 ^ w) (n % 2 ^ w + 1) l ∙ sym (ap (low w) z ∙ mod-mul-add 0 (2 ^ w) (n % 2 ^ w + 1) l))
    (λ (l : 2 ^ w ≤ n % 2 ^ w + 1).
    let e : n + 1 ≡ (n / 2 ^ w + 1) * 2 ^ w + 0 = omega arith in
    let z : n % 2 ^ w + 1 ≡ 1 * 2 ^ w + 0 = omega arith in
    ap (low w) e ∙ mod-mul-add (n / 2 ^ w + 1) (2 ^ w) 0 p ∙ sym (ap (low w) z ∙ mod-mul-add 1 (2 ^ w) 0 p))
    (cases_lt (n % 2 ^ w + 1) (2 ^ w))

pub plus-zero : (z : ℤ) → z +ℤ pos 0 ≡ z
plus-zero z = omega (arith, ints)

pos-more : (n : ℕ) → pos n +ℤ pos 1 ≡ pos (n + 1)
pos-more n = omega (arith, ints)

none-left : negsuc 0 +ℤ pos 1 ≡ pos 0
none-left = refl

negsuc-more : (n : ℕ) → negsuc (suc n) +ℤ pos 1 ≡ negsuc n
negsuc-more n = omega (arith, ints)

low-all : (w : ℕ) → low w (2 ^ w) ≡ 0
low-all w = let z : 2 ^ w ≡ 1 * 2 ^ w + 0 = omega arith in ap (low w) z ∙ mod-mul-add 1 (2 ^ w) 0 (pow_pos w)

low-nothing : (w : ℕ) (z : ℤ) → low_int w z ≡ low w (low_int w z + 0)
low-nothing w z =
    let e : low_int w z + 0 ≡ low_int w z = omega arith in
    sym (ap (low w) e ∙ low-small w (low_int w z) (int-lt w z))

pub low-plus : (w : ℕ) (z : ℤ) (r : Bool) → low_int w (z +ℤ pos (from_bool r)) ≡ low w (low_int w z + from_bool r)
low-plus w z false = ap (low_int w) (plus-zero z) ∙ low-nothing w z
low-plus w (pos n) true = ap (low_int w) (pos-more n) ∙ low-more w n
low-plus w (negsuc zero) true =
    let p : 0 < 2 ^ w = pow_pos w in
    let z : low w 0 ≡ 0 = low-small w 0 p in
    let e : 2 ^ w - 1 - low w 0 + 1 ≡ 2 ^ w = omega (arith, z) in
    z ∙ sym (ap (low w) e ∙ low-all w)
low-plus w (negsuc (suc m)) true =
    let p : 0 < 2 ^ w = pow_pos w in
    let b : low w m < 2 ^ w = mod-lt m p in
    let s : suc m ≡ m + 1 = omega arith in
    let n : low w (suc m) ≡ low w (low w m + 1) = ap (low w) s ∙ low-more w m in
    ap (low_int w) (negsuc-more m) ∙ ⊎_elim
    (λ (l : low w m + 1 < 2 ^ w).
    let t : low w (suc m) ≡ low w m + 1 = n ∙ low-small w (low w m + 1) l in
    let e : 2 ^ w - 1 - low w (suc m) + 1 ≡ 2 ^ w - 1 - low w m = omega (arith, t, l) in
    sym (ap (low w) e ∙ low-small w (2 ^ w - 1 - low w m) (omega arith)))
    (λ (l : 2 ^ w ≤ low w m + 1).
    let q : low w m + 1 ≡ 2 ^ w = omega arith in
    let t : low w (suc m) ≡ 0 = n ∙ ap (low w) q ∙ low-all w in
    let e : 2 ^ w - 1 - low w (suc m) + 1 ≡ 2 ^ w = omega (arith, t, p) in
    let f : 2 ^ w - 1 - low w m ≡ 0 = omega arith in
    f ∙ sym (ap (low w) e ∙ low-all w))
    (cases_lt (low w m + 1) (2 ^ w))

-- ---- rounding

-- The number of a quotient that is rounded down, and what a mode adds to it, make the rounded number.
pub rounds : (w : ℕ) (mode : ℕ) (z : ℤ) (n d q : ℕ) (odd last more : Bool) → q ≡ low_int w (int_shr z n) → d ≡ low w (q + from_bool (increment mode odd last more))
    → odd ≡ bit_of_int z n → last ≡ last_out (bit_of_int z) n → more ≡ more_out (bit_of_int z) n → d ≡ low_int w (rounded mode z n)
rounds w mode z n d q odd last more quotient added o l m =
    added ∙ rw (quotient, o, l, m) (sym (low-plus w (int_shr z n) (increment mode (bit_of_int z n) (last_out (bit_of_int z) n) (more_out (bit_of_int z) n))))
