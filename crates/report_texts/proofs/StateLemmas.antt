-- The digits of a byte.
use Rattle.std.proofs.Common.{◌≡◌, ℕ, ◌<◌, ◌/◌, ◌%◌, ◌^◌, [], ◌∷◌, refl, arith}
use Rattle.bit_laws.specs.Digits.{hex_digit}
use Rattle.report_texts.specs.StateTexts.{hex_byte}

-- the digits of a byte
pub byte_digits : (value : ℕ) → value < 256 → hex_byte value ≡ hex_digit (value / 16) ∷ hex_digit (value % 16) ∷ []
unfolding hex_byte
byte_digits value small =
    let high : value / 16 ^ 1 % 16 ≡ value / 16 = omega arith in
    let low : value / 16 ^ 0 % 16 ≡ value % 16 = omega arith in
    rw (high, low) refl
