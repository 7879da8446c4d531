-- Numbers, their bytes and their bits.
use Rattle.std.proofs.Common.{◌≡◌, ℕ, ◌+◌, ◌*◌, ◌/◌, ◌%◌, ◌<◌, sym, ◌∙◌, arith}
use Rattle.std.proofs.lemmas.Nat.{div-mul-add, mod-mul-add, div-add-mod'}
use Rattle.std.proofs.Math.Nat.{mod-lt}
use Rattle.bit_laws.specs.Numbers.{number, low, little, bit_of, byte_of}
use Rattle.bit_laws.proofs.Numbers.{number-bits, number-part, bit-number, little-number, little-same}

-- a byte of a number is the number of its bits
pub byte-bits : (z k : ℕ) → byte_of z k ≡ number 8 (λ b. bit_of z (8 * k + b))
byte-bits z k = sym (number-part z (8 * k) 8)

-- a bit of a byte of a number
pub bit-byte : (z k b : ℕ) → b < 8 → bit_of (byte_of z k) b ≡ bit_of z (8 * k + b)
bit-byte z k b inside = rw (byte-bits z k) (bit-number 8 (λ j. bit_of z (8 * k + j)) b inside)

-- the number of the lowest bytes of a number
pub little-bytes : (n z : ℕ) → little n (byte_of z) ≡ low (8 * n) z
little-bytes n z =
    little-same n (byte_of z) (λ k. number 8 (λ b. bit_of z (8 * k + b))) (λ k below. byte-bits z k)
    ∙ little-number n (bit_of z)
    ∙ number-bits (8 * n) z

-- bit b of place t of a list of lists of so many places
pub place-parts : (size t b : ℕ) → b < 8 → 0 < size → ((8 * t + b) / (8 * size) ≡ t / size) × ((8 * t + b) % (8 * size) ≡ 8 * (t % size) + b)
place-parts size t b inside positive =
    let whole : t / size * size + t % size ≡ t = div-add-mod' t size in
    let rest : t % size < size = mod-lt t positive in
    let lower : 8 * (t % size) + b < 8 * size = omega arith in
    let eights : t / size * (8 * size) + (8 * (t % size) + b) ≡ 8 * t + b = split (t / size) size (t % size) t b whole in
    (rw (← eights) (div-mul-add (t / size) (8 * size) (8 * (t % size) + b) lower), rw (← eights) (mod-mul-add (t / size) (8 * size) (8 * (t % size) + b) lower))
  where
    split : (q size m t b : ℕ) → q * size + m ≡ t → q * (8 * size) + (8 * m + b) ≡ 8 * t + b
    split q size m t b whole = rw (← whole) (omega arith)

-- a byte and a bit of it make a place of a bit, and a place of a bit has a byte and a bit of it
pub byte-place : (j b : ℕ) → b < 8 → (8 * j + b) / 8 ≡ j
byte-place j b inside = let e : 8 * j + b ≡ j * 8 + b = omega arith in rw e (div-mul-add j 8 b inside)

pub bit-place : (j b : ℕ) → b < 8 → (8 * j + b) % 8 ≡ b
bit-place j b inside = let e : 8 * j + b ≡ j * 8 + b = omega arith in rw e (mod-mul-add j 8 b inside)
