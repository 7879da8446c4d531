-- The quotients and the remainders as whole numbers.
use Rattle.std.proofs.Common.{◌≡◌, ◌≢◌, ℕ, pos, negsuc, ◌+◌, ◌-◌, ◌/◌, ◌%◌, ◌^◌, ◌<◌, ◌≤◌, ◌-ℤ◌, int_div, int_rem, Bool, true, false, cond, not, eqb, ◌&&◌, suc, refl, sym, ◌∙◌, ap, arith, ⊎_elim}
use mathlib.Core.Bool.{beq}
use Rattle.std.proofs.Math.Nat.{div-le_self, mod-le, mod-eq_of_lt}
use Rattle.std.proofs.Math.IntN.{neg_ℤ}
use Rattle.std.proofs.lemmas.Bool.{cases_lt, cases_eq, lt-ltb, le-ltb, ne_eqb}
use Rattle.std.proofs.lemmas.Int.{ints}
use Rattle.std.proofs.lemmas.Nat.{pow_pos}
use Rattle.bit_laws.specs.Numbers.{low}
use Rattle.bit_laws.specs.Signed.{signed}
use Rattle.bit_laws.specs.Rounding.{low_int}
use Rattle.bit_laws.proofs.Ints.{int-low}
use Rattle.row_sums.proofs.Numbers.{negative, low-shift}
use Rattle.gen_div.specs.Kinds.{signed_quotient_of, signed_remainder}
use Rattle.gen_div.proofs.Negatives.{signed_by, magnitude, quotient_negative}

-- the quotient of the numbers without signs, with its sign, and the remainder with the dividend's
abbrev pub quotient_of : (w a b : ℕ) → ℕ
quotient_of w a b = signed_by w (quotient_negative w a b) (cond (eqb (magnitude w b) 0) (2 ^ w - 1) (magnitude w a / magnitude w b))

abbrev pub rest_of : (w a b : ℕ) → ℕ
rest_of w a b = signed_by w (negative w a) (cond (eqb (magnitude w b) 0) (magnitude w a) (magnitude w a % magnitude w b))

wrapped-negative : (w q : ℕ) → q ≤ 2 ^ w → low_int w (neg_ℤ (pos q)) ≡ low w (2 ^ w - q)
wrapped-negative w q h =
    let e : neg_ℤ (pos q) ≡ pos 0 -ℤ pos q = omega (arith, ints) in
    let z : 0 + (2 ^ w - q) ≡ 2 ^ w - q = omega arith in
    ap (low_int w) e ∙ low-shift w 0 q h ∙ ap (low w) z

below : (m a x : ℕ) → m ≡ a + suc x → pos a -ℤ pos m ≡ negsuc x
below m a x e = omega (arith, ints)

-- by a divisor that is not 0
div-at : (w a b x y : ℕ) → 2 ^ w ≡ a + suc x → 2 ^ w ≡ b + suc y → 0 < b → low w (quotient_of w a b) ≡ low_int w (int_div (signed w a) (signed w b))
div-at w a b x y ea eb some =
    let nz : eqb (suc y) 0 ≡ false = ne_eqb (suc y) 0 (omega arith) in
    let ta : 2 ^ w - a ≡ suc x = omega arith in
    let tb : 2 ^ w - b ≡ suc y = omega arith in
    let nb : eqb b 0 ≡ false = ne_eqb b 0 (omega arith) in
    let ab : a / suc y ≤ 2 ^ w = let d = div-le_self a (suc y) in omega arith in
    let xb : suc x / b ≤ 2 ^ w = let d = div-le_self (suc x) b in omega arith in
    ⊎_elim
    (λ (s : a < 2 ^ (w - 1)).
    ⊎_elim
    (λ (t : b < 2 ^ (w - 1)). rw (lt-ltb a (2 ^ (w - 1)) s, lt-ltb b (2 ^ (w - 1)) t, nb) refl)
    (λ (t : 2 ^ (w - 1) ≤ b). rw (lt-ltb a (2 ^ (w - 1)) s, le-ltb b (2 ^ (w - 1)) t, nb, below (2 ^ w) b y eb, tb, nz) (sym (wrapped-negative w (a / suc y) ab)))
    (cases_lt b (2 ^ (w - 1))))
    (λ (s : 2 ^ (w - 1) ≤ a).
    ⊎_elim
    (λ (t : b < 2 ^ (w - 1)). rw (le-ltb a (2 ^ (w - 1)) s, lt-ltb b (2 ^ (w - 1)) t, nb, below (2 ^ w) a x ea, ta) (sym (wrapped-negative w (suc x / b) xb)))
    (λ (t : 2 ^ (w - 1) ≤ b). rw (le-ltb a (2 ^ (w - 1)) s, le-ltb b (2 ^ (w - 1)) t, below (2 ^ w) a x ea, below (2 ^ w) b y eb, ta, tb, nz) refl)
    (cases_lt b (2 ^ (w - 1))))
    (cases_lt a (2 ^ (w - 1)))

pub div-whole : (w a b : ℕ) → a < 2 ^ w → b < 2 ^ w → 0 < b → low w (quotient_of w a b) ≡ low_int w (int_div (signed w a) (signed w b))
div-whole w a b la lb some = div-at w a b (2 ^ w - a - 1) (2 ^ w - b - 1) (omega arith) (omega arith) some

rem-at : (w a b x y : ℕ) → 2 ^ w ≡ a + suc x → 2 ^ w ≡ b + suc y → 0 < b → low w (rest_of w a b) ≡ low_int w (int_rem (signed w a) (signed w b))
rem-at w a b x y ea eb some =
    let nz : eqb (suc y) 0 ≡ false = ne_eqb (suc y) 0 (omega arith) in
    let ta : 2 ^ w - a ≡ suc x = omega arith in
    let tb : 2 ^ w - b ≡ suc y = omega arith in
    let nb : eqb b 0 ≡ false = ne_eqb b 0 (omega arith) in
    let xy : suc x % suc y ≤ 2 ^ w = let d = mod-le (suc x) (suc y) in omega arith in
    let xb : suc x % b ≤ 2 ^ w = let d = mod-le (suc x) b in omega arith in
    ⊎_elim
    (λ (s : a < 2 ^ (w - 1)).
    ⊎_elim
    (λ (t : b < 2 ^ (w - 1)). rw (lt-ltb a (2 ^ (w - 1)) s, lt-ltb b (2 ^ (w - 1)) t, nb) refl)
    (λ (t : 2 ^ (w - 1) ≤ b). rw (lt-ltb a (2 ^ (w - 1)) s, le-ltb b (2 ^ (w - 1)) t, below (2 ^ w) b y eb, tb, nz) refl)
    (cases_lt b (2 ^ (w - 1))))
    (λ (s : 2 ^ (w - 1) ≤ a).
    ⊎_elim
    (λ (t : b < 2 ^ (w - 1)). rw (le-ltb a (2 ^ (w - 1)) s, lt-ltb b (2 ^ (w - 1)) t, nb, below (2 ^ w) a x ea, ta) (sym (wrapped-negative w (suc x % b) xb)))
    (λ (t : 2 ^ (w - 1) ≤ b). rw (le-ltb a (2 ^ (w - 1)) s, le-ltb b (2 ^ (w - 1)) t, below (2 ^ w) a x ea, below (2 ^ w) b y eb, ta, tb, nz) (sym (wrapped-negative w (suc x % suc y) xy)))
    (cases_lt b (2 ^ (w - 1))))
    (cases_lt a (2 ^ (w - 1)))

pub rem-whole : (w a b : ℕ) → a < 2 ^ w → b < 2 ^ w → 0 < b → low w (rest_of w a b) ≡ low_int w (int_rem (signed w a) (signed w b))
rem-whole w a b la lb some = rem-at w a b (2 ^ w - a - 1) (2 ^ w - b - 1) (omega arith) (omega arith) some

-- ---- by 0

not-negative : (w : ℕ) → negative w 0 ≡ false
not-negative w = rw (lt-ltb 0 (2 ^ (w - 1)) (pow_pos (w - 1))) refl

no_and : (b : Bool) → b && false ≡ false
no_and true = refl
no_and false = refl

pub div-zero : (w a : ℕ) → low w (quotient_of w a 0) ≡ 2 ^ w - 1
div-zero w a = let p = pow_pos w in rw (not-negative w, no_and (not (beq (negative w a) false))) (mod-eq_of_lt (omega arith))

pub rem-zero : (w a : ℕ) → a < 2 ^ w → low w (rest_of w a 0) ≡ a
rem-zero w a l =
    ⊎_elim
    (λ (s : a < 2 ^ (w - 1)). rw (not-negative w, lt-ltb a (2 ^ (w - 1)) s) (mod-eq_of_lt l))
    (λ (s : 2 ^ (w - 1) ≤ a). let z : 2 ^ w - (2 ^ w - a) ≡ a = omega arith in rw (not-negative w, le-ltb a (2 ^ (w - 1)) s, z) (mod-eq_of_lt l))
    (cases_lt a (2 ^ (w - 1)))

-- ---- of all numbers

small-ones : (w : ℕ) → low w (2 ^ w - 1) ≡ 2 ^ w - 1
small-ones w = let p = pow_pos w in mod-eq_of_lt (omega arith)

pub quotient-whole : (w a b : ℕ) → a < 2 ^ w → b < 2 ^ w → low w (quotient_of w a b) ≡ low w (signed_quotient_of w a b)
quotient-whole w a b la lb =
    ⊎_elim
    (λ (none : b ≡ 0). rw none (div-zero w a ∙ sym (small-ones w)))
    (λ (some : b ≢ 0).
    let is : signed_quotient_of w a b ≡ low_int w (int_div (signed w a) (signed w b)) = rw (ne_eqb b 0 some) refl in
    div-whole w a b la lb (omega arith) ∙ int-low w (int_div (signed w a) (signed w b)) ∙ ap (low w) (sym is))
    (cases_eq b 0)

pub remainder-whole : (w a b : ℕ) → a < 2 ^ w → b < 2 ^ w → low w (rest_of w a b) ≡ low w (signed_remainder w a b)
remainder-whole w a b la lb =
    ⊎_elim
    (λ (none : b ≡ 0). rw none (rem-zero w a la ∙ sym (mod-eq_of_lt la)))
    (λ (some : b ≢ 0). rw (ne_eqb b 0 some) (rem-whole w a b la lb (omega arith) ∙ int-low w (int_rem (signed w a) (signed w b))))
    (cases_eq b 0)
