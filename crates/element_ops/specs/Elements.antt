-- Elements of groups of registers, once as numbers of bytes and once as numbers of bits (vector extension 1.0, chapter 4).
use Rattle.std.specs.Prelude.{◌≡◌, ℕ, ◌+◌, ◌-◌, ◌*◌, ◌/◌, ◌%◌, ◌^◌, ◌<◌, ◌⊎◌, Bool, cond, ◌&&◌, eqb, List, [], length, slice_index_or}
use lib.Dec.{ltb, leb}
use Rattle.bit_laws.specs.Numbers.{number, little, bit_of, byte_of}
use Rattle.bit_laws.specs.Lists.{tabulate}

-- how many bytes an element may have
abbrev pub IsSize : ℕ → Type 0
IsSize size = (size ≡ 1) ⊎ ((size ≡ 2) ⊎ (size ≡ 4))

-- element e, of w bits, of a list of bytes: the little-endian number of its bytes
unfoldable pub element_at : List ℕ → (w e : ℕ) → ℕ
element_at bytes w e = little (w / 8) (λ k. slice_index_or bytes (e * (w / 8) + k) 0)

-- bit e of a list of bytes, counted from the lowest bit of byte 0 on
abbrev pub mask_bit_at : List ℕ → (e : ℕ) → Bool
mask_bit_at bytes e = bit_of (slice_index_or bytes (e / 8) 0) (e % 8)

-- Registers are lists of bytes; byte j of register q.
abbrev pub byte_at : List (List ℕ) → (q j : ℕ) → ℕ
byte_at v q j = slice_index_or (slice_index_or v q []) j 0

-- there are 32 registers, each of so many bytes
pub record AreRegisters (size : ℕ) (v : List (List ℕ)) : Type 0 where
  pub count : length v ≡ 32
  pub sizes : (q : ℕ) → q < 32 → length (slice_index_or v q []) ≡ size
  pub bytes : (q j : ℕ) → byte_at v q j < 2 ^ 8

-- byte t of the registers from r on, of `size` bytes each, one after the other
abbrev pub group_byte : (size : ℕ) → List (List ℕ) → (r t : ℕ) → ℕ
group_byte size v r t = slice_index_or (slice_index_or v (r + t / size) []) (t % size) 0

-- element e, of w bits, of the group from register r on: the little-endian number of its bytes
unfoldable pub element_of : (size : ℕ) → List (List ℕ) → (r w e : ℕ) → ℕ
element_of size v r w e = little (w / 8) (λ k. group_byte size v r (e * (w / 8) + k))

-- bit e of register r, counted from the lowest bit of byte 0 on
abbrev pub mask_bit_of : List (List ℕ) → (r e : ℕ) → Bool
mask_bit_of v r e = mask_bit_at (slice_index_or v r []) e

-- Writing changes bytes of registers, and neither their number nor their sizes: the registers with these bytes.
unfoldable pub with_bytes : List (List ℕ) → (ℕ → ℕ → ℕ) → List (List ℕ)
with_bytes v byte = tabulate (length v) (λ q. tabulate (length (slice_index_or v q [])) (byte q))

-- the place of byte j of register q among those of the registers from r on
abbrev pub place_in_group : (size r q j : ℕ) → ℕ
place_in_group size r q j = (q - r) * size + j

-- the registers with element e, of w bits, of the group from register r on written: its bytes change, and these alone
unfoldable pub with_element : (size : ℕ) → List (List ℕ) → (r w e z : ℕ) → List (List ℕ)
with_element size v r w e z =
    with_bytes v (λ q j.
    cond (leb r q && eqb (place_in_group size r q j / (w / 8)) e) (byte_of z (place_in_group size r q j % (w / 8))) (byte_at v q j))

-- the registers whose `count` registers from r on hold these elements, of w bits each; the others stay
unfoldable pub with_elements : (size : ℕ) → List (List ℕ) → (r count w : ℕ) → (ℕ → ℕ) → List (List ℕ)
with_elements size v r count w value =
    with_bytes v (λ q j.
    cond (leb r q && ltb q (r + count)) (byte_of (value (place_in_group size r q j / (w / 8))) (place_in_group size r q j % (w / 8))) (byte_at v q j))

-- the registers whose register r holds these bits; the others stay
unfoldable pub with_mask : List (List ℕ) → (r : ℕ) → (ℕ → Bool) → List (List ℕ)
with_mask v r bit = with_bytes v (λ q j. cond (eqb q r) (number 8 (λ b. bit (8 * j + b))) (byte_at v q j))

-- registers as bits: bit i of register r
abbrev pub Registers : Type 0
Registers = ℕ → ℕ → Bool

-- the bits of registers that are lists of bytes
unfoldable pub bits_of : List (List ℕ) → Registers
bits_of v r i = mask_bit_of v r i

-- bit i of the registers from r on, of `vlen` bits each, one after the other
abbrev pub group_bit : (vlen : ℕ) → Registers → (r i : ℕ) → Bool
group_bit vlen v r i = v (r + i / vlen) (i % vlen)

-- element e, of w bits, of the group from register r on: the number of its bits
unfoldable pub element_in : (vlen : ℕ) → Registers → (r w e : ℕ) → ℕ
element_in vlen v r w e = number w (λ j. group_bit vlen v r (e * w + j))

-- the registers whose `count` registers from r on, of `vlen` bits each, hold these elements, of w bits each
unfoldable pub with_elements_in : (vlen : ℕ) → Registers → (r count w : ℕ) → (ℕ → ℕ) → Registers
with_elements_in vlen v r count w value q i =
    cond (leb r q && ltb q (r + count)) (bit_of (value (place_in_group vlen r q i / w)) (place_in_group vlen r q i % w)) (v q i)
