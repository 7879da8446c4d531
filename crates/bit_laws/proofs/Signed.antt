-- Numbers with a sign are in the order of the numbers whose highest bit is inverted.
use Rattle.std.proofs.Common.{◌≡◌, ℕ, ◌+◌, ◌-◌, ◌*◌, ◌%◌, ◌^◌, ◌<◌, ◌≤◌, ltb, leb, pos, ◌-ℤ◌, int_lt, int_le, ◌∙◌, ap, arith, ⊎_elim}
use Rattle.std.proofs.lemmas.Bool.{cases_lt, lt-ltb, le-ltb}
use Rattle.std.proofs.lemmas.Int.{ints}
use Rattle.std.proofs.lemmas.Nat.{pow-add, mod-mul-add}
use Rattle.std.proofs.Math.Nat.{mod-eq_of_lt}
use Rattle.bit_laws.specs.Numbers.{low}
use Rattle.bit_laws.specs.Signed.{signed}

-- a number with its highest bit inverted
abbrev inverted : (w a : ℕ) → ℕ
inverted w a = low w (a + 2 ^ (w - 1))

-- half of the numbers of w bits
halves : (w : ℕ) → 0 < w → 2 ^ w ≡ 2 ^ (w - 1) + 2 ^ (w - 1)
halves w some =
    let e : w ≡ w - 1 + 1 = omega arith in
    let p : 2 ^ (w - 1 + 1) ≡ 2 ^ (w - 1) * 2 ^ 1 = pow-add 2 (w - 1) 1 in
    ap (λ (n : ℕ). 2 ^ n) e ∙ p ∙ omega arith

-- what is left of a number and half of all numbers
below-half : (h a : ℕ) → a < h → (a + h) % (h + h) ≡ a + h
below-half h a less = mod-eq_of_lt (omega arith)

above-half : (h a : ℕ) → h ≤ a → a < h + h → (a + h) % (h + h) ≡ a - h
above-half h a more less =
    let e : a + h ≡ 1 * (h + h) + (a - h) = omega arith in
    rw e (mod-mul-add 1 (h + h) (a - h) (omega arith))

-- a number with a sign is the inverted one, less half of all numbers
signed-inverted : (w a : ℕ) → 0 < w → a < 2 ^ w → signed w a ≡ pos (inverted w a) -ℤ pos (2 ^ (w - 1))
signed-inverted w a some less =
    let all : 2 ^ w ≡ 2 ^ (w - 1) + 2 ^ (w - 1) = halves w some in
    ⊎_elim
    (λ (l : a < 2 ^ (w - 1)). rw (lt-ltb a (2 ^ (w - 1)) l, all, below-half (2 ^ (w - 1)) a l) (omega (arith, ints)))
    (λ (l : 2 ^ (w - 1) ≤ a). rw (le-ltb a (2 ^ (w - 1)) l, all, above-half (2 ^ (w - 1)) a l (omega arith)) (omega (arith, ints)))
    (cases_lt a (2 ^ (w - 1)))

less-shifted : (x y h : ℕ) → int_lt (pos x -ℤ pos h) (pos y -ℤ pos h) ≡ ltb x y
less-shifted x y h = grind (arith, ints)

most-shifted : (x y h : ℕ) → int_le (pos x -ℤ pos h) (pos y -ℤ pos h) ≡ leb x y
most-shifted x y h = grind (arith, ints)

pub signed-order : (w a b : ℕ) → 0 < w → a < 2 ^ w → b < 2 ^ w → int_lt (signed w a) (signed w b) ≡ ltb (low w (a + 2 ^ (w - 1))) (low w (b + 2 ^ (w - 1)))
signed-order w a b some one two =
    rw (signed-inverted w a some one, signed-inverted w b some two) (less-shifted (inverted w a) (inverted w b) (2 ^ (w - 1)))

pub signed-most : (w a b : ℕ) → 0 < w → a < 2 ^ w → b < 2 ^ w → int_le (signed w a) (signed w b) ≡ leb (low w (a + 2 ^ (w - 1))) (low w (b + 2 ^ (w - 1)))
signed-most w a b some one two =
    rw (signed-inverted w a some one, signed-inverted w b some two) (most-shifted (inverted w a) (inverted w b) (2 ^ (w - 1)))
