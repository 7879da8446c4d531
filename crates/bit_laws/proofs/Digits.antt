-- Hexadecimal digits, from the highest on.
use Rattle.std.proofs.Common.{◌≡◌, ℕ, zero, suc, ◌+◌, ◌-◌, ◌*◌, ◌/◌, ◌%◌, ◌^◌, ◌<◌, ◌∷◌, refl, sym, ap, ◌∙◌, arith}
use Rattle.std.proofs.Math.Nat.{pow-succ'}
use Rattle.std.proofs.lemmas.Nat.{pow-add}
use Rattle.bit_laws.specs.Digits.{hex_digit, hex_digits}

pow_sixteen : (k : ℕ) → 2 ^ (4 * k) ≡ 16 ^ k
pow_sixteen zero = refl
pow_sixteen (suc k) =
    let e : 4 * suc k ≡ 4 + 4 * k = omega arith in
    ap (λ n. 2 ^ n) e ∙ pow-add 2 4 (4 * k) ∙ ap (λ n. 16 * n) (pow_sixteen k) ∙ sym (pow-succ' 16 k)

-- the highest of the digits that are left, and the rest of them
pub hex_digits_more : (place value : ℕ) → 0 < place → hex_digits place value ≡ hex_digit (value / 2 ^ (4 * (place - 1)) % 16) ∷ hex_digits (place - 1) value
hex_digits_more zero value some = absurd (omega arith)
hex_digits_more (suc n) value some =
    let e : suc n - 1 ≡ n = omega arith in
    rw (e, pow_sixteen n) refl
