-- A number of an element's range stays in it when it is moved to the right and rounded, so nothing is lost where it is written
-- as an element.
use Rattle.std.proofs.Common.{◌≡◌, ℕ, zero, suc, ◌+◌, ◌-◌, ◌*◌, ◌/◌, ◌^◌, ◌<◌, ◌≤◌, Bool, true, false, ℤ, pos, negsuc, ◌+ℤ◌, refl, sym, ◌∙◌, ap, subst, arith, ⊎_elim}
use Rattle.std.specs.Int.{from_bool}
use Rattle.std.proofs.lemmas.Bool.{cases_lt, lt-ltb, le-ltb}
use Rattle.std.proofs.lemmas.Int.{ints}
use Rattle.std.proofs.Math.Nat.{div-mul-le_self, mul-le-mul_left}
use Rattle.std.proofs.Math.Pow.{pow_mono}
use Rattle.bit_laws.specs.Rounding.{bit_of_int, low_int, last_out, more_out, increment, rounded}
use Rattle.bit_laws.specs.Signed.{signed}
use Rattle.bit_laws.proofs.Ints.{low-small, minus-more}
use Rattle.bit_laws.proofs.Rounding.{plus-zero}

-- a number with a sign that is at least -h and below h
abbrev InRange : (h : ℕ) → ℤ → Type 0
InRange h (pos n) = n < h
InRange h (negsuc n) = n < h

-- twice half of a power of two
doubled-power : (d : ℕ) → 0 < d → 2 ^ d ≡ 2 * 2 ^ (d - 1)
doubled-power zero some = absurd (omega (arith, some))
doubled-power (suc d) some = let z : suc d - 1 ≡ d = omega arith in rw z (omega arith)

-- ---- rounding

-- no bit goes out where nothing is moved
nothing-added : (mode : ℕ) (odd : Bool) → increment mode odd false false ≡ false
nothing-added zero odd = refl
nothing-added (suc zero) odd = refl
nothing-added (suc (suc zero)) odd = refl
nothing-added (suc (suc (suc n))) true = refl
nothing-added (suc (suc (suc n))) false = refl

whole : (x : ℕ) → x / 2 ^ 0 ≡ x
whole x = omega arith

-- what is moved by a place or more is at most half
half-most : (x n : ℕ) → 2 * (x / 2 ^ suc n) ≤ x
half-most x n =
    let more : 1 ≤ suc n = omega arith in
    let two : 2 ^ 1 ≤ 2 ^ suc n = pow_mono more in
    let most : x / 2 ^ suc n * 2 ^ 1 ≤ x / 2 ^ suc n * 2 ^ suc n = mul-le-mul_left (x / 2 ^ suc n) two in
    omega (arith, most, div-mul-le_self x (2 ^ suc n))

pub rounded-same : (mode : ℕ) (z : ℤ) → rounded mode z 0 ≡ z
rounded-same mode (pos x) = rw (nothing-added mode (bit_of_int (pos x) 0)) (plus-zero (pos (x / 2 ^ 0)) ∙ ap pos (whole x))
rounded-same mode (negsuc x) = rw (nothing-added mode (bit_of_int (negsuc x) 0)) (plus-zero (negsuc (x / 2 ^ 0)) ∙ ap negsuc (whole x))

-- without a sign
pub record Natural (d : ℕ) (z : ℤ) : Type 0 where
  pub number : ℕ
  pub is : z ≡ pos number
  pub small : number < 2 ^ d

one-more : (d q : ℕ) (b : Bool) → 1 < d → 2 * q < 2 ^ d → Natural d (pos q +ℤ pos (from_bool b))
one-more d q b some half =
    let h = 2 ^ (d - 1) in
    let twice : 2 ^ d ≡ 2 * 2 ^ (d - 1) = doubled-power d (omega arith) in
    let more : 1 ≤ d - 1 = omega arith in
    let two : 2 ^ 1 ≤ 2 ^ (d - 1) = pow_mono more in
    record { number = q + from_bool b; is = refl; small = chosen b (omega (arith, twice, half, two)) }
  where
    chosen : (b : Bool) → q + 1 < 2 ^ d → q + from_bool b < 2 ^ d
    chosen true less = less
    chosen false less = omega (arith, less)

pub rounded-natural : (mode d x n : ℕ) → 1 < d → x < 2 ^ d → Natural d (rounded mode (pos x) n)
rounded-natural mode d x zero some small = record { number = x; is = rounded-same mode (pos x); small = small }
rounded-natural mode d x (suc n) some small = one-more d (x / 2 ^ suc n) _ some (omega (arith, half-most x n, small))

-- with a sign
rounded-range : (mode h n : ℕ) (z : ℤ) → 1 < h → InRange h z → InRange h (rounded mode z n)
rounded-range mode h zero z some inside = subst (InRange h) (sym (rounded-same mode z)) inside
rounded-range mode h (suc n) (pos x) some inside = chosen (increment mode (bit_of_int (pos x) (suc n)) (last_out (bit_of_int (pos x)) (suc n)) (more_out (bit_of_int (pos x)) (suc n)))
  where
    chosen : (b : Bool) → x / 2 ^ suc n + from_bool b < h
    chosen true = omega (arith, half-most x n, inside, some)
    chosen false = omega (arith, half-most x n, inside, some)
rounded-range mode h (suc n) (negsuc x) some inside = chosen (x / 2 ^ suc n) (increment mode (bit_of_int (negsuc x) (suc n)) (last_out (bit_of_int (negsuc x)) (suc n)) (more_out (bit_of_int (negsuc x)) (suc n))) (omega (arith, half-most x n, inside))
  where
    chosen : (q : ℕ) (b : Bool) → q < h → InRange h (negsuc q +ℤ pos (from_bool b))
    chosen q false less = subst (InRange h) (sym (plus-zero (negsuc q))) less
    chosen zero true less = omega (arith, some)
    chosen (suc q) true less = let e : negsuc (suc q) +ℤ pos 1 ≡ negsuc q = omega (arith, ints) in let l : q < h = omega (arith, less) in subst (InRange h) (sym e) l

-- ---- elements

signed-range : (d x : ℕ) → 0 < d → x < 2 ^ d → InRange (2 ^ (d - 1)) (signed d x)
signed-range d x some small =
    let twice = doubled-power d some in
    ⊎_elim
    (λ (l : x < 2 ^ (d - 1)). rw (lt-ltb x (2 ^ (d - 1)) l) l)
    (λ (l : 2 ^ (d - 1) ≤ x).
    let sum : x + (2 ^ d - 1 - x) + 1 ≡ 2 ^ d = omega arith in
    let rest : 2 ^ d - 1 - x < 2 ^ (d - 1) = omega (arith, twice, l, small) in
    rw (le-ltb x (2 ^ (d - 1)) l, minus-more x (2 ^ d - 1 - x) (2 ^ d) sum) rest)
    (cases_lt x (2 ^ (d - 1)))

signed-low : (d : ℕ) (z : ℤ) → 0 < d → InRange (2 ^ (d - 1)) z → signed d (low_int d z) ≡ z
signed-low d (pos n) some inside =
    let twice = doubled-power d some in
    let small : n < 2 ^ d = omega (arith, twice, inside) in
    rw (low-small d n small, lt-ltb n (2 ^ (d - 1)) inside) refl
signed-low d (negsuc n) some inside =
    let twice = doubled-power d some in
    let small : n < 2 ^ d = omega (arith, twice, inside) in
    let y = 2 ^ d - 1 - n in
    let high : 2 ^ (d - 1) ≤ 2 ^ d - 1 - n = omega (arith, twice, inside) in
    let sum : 2 ^ d - 1 - n + n + 1 ≡ 2 ^ d = omega (arith, small) in
    rw (low-small d n small, le-ltb (2 ^ d - 1 - n) (2 ^ (d - 1)) high) (minus-more (2 ^ d - 1 - n) n (2 ^ d) sum)

-- a number that is rounded, read from the element where it is written
pub rounded-written : (mode d x n : ℕ) → 1 < d → x < 2 ^ d → pos (low_int d (rounded mode (pos x) n)) ≡ rounded mode (pos x) n
rounded-written mode d x n some small =
    let r = rounded-natural mode d x n some small in
    ap (λ (z : ℤ). pos (low_int d z)) r.is ∙ ap pos (low-small d r.number r.small) ∙ sym r.is

pub rounded-signed : (mode d x n : ℕ) → 2 < d → x < 2 ^ d → signed d (low_int d (rounded mode (signed d x) n)) ≡ rounded mode (signed d x) n
rounded-signed mode d x n some small =
    let more : 1 ≤ d - 1 = omega arith in
    let two : 2 ^ 1 ≤ 2 ^ (d - 1) = pow_mono more in
    signed-low d (rounded mode (signed d x) n) (omega arith) (rounded-range mode (2 ^ (d - 1)) n (signed d x) (omega (arith, two)) (signed-range d x (omega arith) small))
