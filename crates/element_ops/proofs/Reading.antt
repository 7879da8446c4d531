-- An element that is read as bytes is the number of its bits.
use Rattle.std.proofs.Common.{◌≡◌, ℕ, ◌+◌, ◌*◌, ◌/◌, ◌%◌, ◌^◌, ◌<◌, List, refl, sym, ◌∙◌, arith, subst}
use Rattle.std.proofs.Math.Nat.{mod-eq_of_lt}
use Rattle.bit_laws.specs.Numbers.{number, little, bit_of}
use Rattle.bit_laws.proofs.Numbers.{number-same, number-bits, little-number, little-same}
use Rattle.element_ops.specs.Elements.{byte_at, group_byte, group_bit, element_of, element_in, bits_of}
use Rattle.element_ops.proofs.Bytes.{place-parts, byte-place, bit-place}

-- the bits of a byte of a group
group-bits : (size : ℕ) (v : List (List ℕ)) (r t b : ℕ) → b < 8 → 0 < size → group_bit (8 * size) (bits_of v) r (8 * t + b) ≡ bit_of (group_byte size v r t) b
unfolding bits_of
group-bits size v r t b inside positive =
    let at = place-parts size t b inside positive in
    rw (at.0, at.1, byte-place (t % size) b inside, bit-place (t % size) b inside) refl

-- an element of n bytes
pub bytes-bits : (size n : ℕ) (v : List (List ℕ)) (r e : ℕ) → 0 < size → ((q j : ℕ) → byte_at v q j < 2 ^ 8)
    → little n (λ k. group_byte size v r (e * n + k)) ≡ number (8 * n) (λ j. group_bit (8 * size) (bits_of v) r (e * (8 * n) + j))
bytes-bits size n v r e positive bytes =
    little-same n (λ k. group_byte size v r (e * n + k)) (λ k. number 8 (λ b. group_bit (8 * size) (bits_of v) r (e * (8 * n) + (8 * k + b)))) (λ k below.
    sym (number-same 8 (λ b. group_bit (8 * size) (bits_of v) r (e * (8 * n) + (8 * k + b))) (bit_of (group_byte size v r (e * n + k))) (λ b inside.
    let place : e * (8 * n) + (8 * k + b) ≡ 8 * (e * n + k) + b = omega arith in
    rw place (group-bits size v r (e * n + k) b inside positive))
    ∙ number-bits 8 (group_byte size v r (e * n + k))
    ∙ mod-eq_of_lt (bytes (r + (e * n + k) / size) ((e * n + k) % size))))
    ∙ little-number n (λ j. group_bit (8 * size) (bits_of v) r (e * (8 * n) + j))

-- an element whose width is a whole number of bytes, as that of 8, 16 and 32 bits
pub element-bits : (size : ℕ) (v : List (List ℕ)) (r w e : ℕ) → 0 < size → ((q j : ℕ) → byte_at v q j < 2 ^ 8) → 8 * (w / 8) ≡ w
    → element_of size v r w e ≡ element_in (8 * size) (bits_of v) r w e
unfolding element_of element_in
element-bits size v r w e positive bytes whole =
    let P : ℕ → Type 0 = λ x. little (w / 8) (λ k. group_byte size v r (e * (w / 8) + k)) ≡ number x (λ j. group_bit (8 * size) (bits_of v) r (e * x + j)) in
    subst P whole (bytes-bits size (w / 8) v r e positive bytes)
