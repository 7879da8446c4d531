-- What stands in registers after a write.
use Rattle.std.proofs.Common.{◌≡◌, ℕ, ◌+◌, ◌-◌, ◌*◌, ◌/◌, ◌%◌, ◌^◌, ◌<◌, ◌≤◌, Bool, true, false, cond, ◌&&◌, eqb, ltb, leb, List, [], length, slice_index_or, refl, ◌∙◌, ap, arith, subst, ⊎_elim}
use Rattle.std.proofs.Math.Nat.{mod-lt, div-lt_iff_lt-mul}
use Rattle.std.proofs.lemmas.Nat.{div-mul-add, mod-mul-add, div-add-mod'}
use Rattle.std.proofs.lemmas.Bool.{cases_lt, lt-ltb, le-leb}
use Rattle.std.proofs.lemmas.List.{get_or_past}
use Rattle.bit_laws.specs.Numbers.{number, low, little, bit_of, byte_of}
use Rattle.bit_laws.specs.Lists.{tabulate}
use Rattle.bit_laws.proofs.Lists.{length-tabulate, get-tabulate}
use Rattle.bit_laws.proofs.Numbers.{little-same, bit-number, number-lt}
use Rattle.element_ops.specs.Elements.{AreRegisters, byte_at, group_byte, element_of, with_bytes, with_elements, with_element, with_mask, place_in_group, bits_of, with_elements_in}
use Rattle.element_ops.proofs.Bytes.{little-bytes, bit-byte, place-parts, byte-place, bit-place}

-- a write keeps the number of registers
pub count-with_bytes : (v : List (List ℕ)) (byte : ℕ → ℕ → ℕ) → length (with_bytes v byte) ≡ length v
unfolding with_bytes
count-with_bytes v byte = length-tabulate (length v) (λ q. tabulate (length (slice_index_or v q [])) (byte q))

-- a register after a write
pub register-with_bytes : (v : List (List ℕ)) (byte : ℕ → ℕ → ℕ) (q : ℕ) → q < length v
    → slice_index_or (with_bytes v byte) q [] ≡ tabulate (length (slice_index_or v q [])) (byte q)
unfolding with_bytes
register-with_bytes v byte q inside = get-tabulate (length v) (λ p. tabulate (length (slice_index_or v p [])) (byte p)) q [] inside

-- a byte after a write
pub byte-with_bytes : (v : List (List ℕ)) (byte : ℕ → ℕ → ℕ) (q j : ℕ) → q < length v → j < length (slice_index_or v q [])
    → byte_at (with_bytes v byte) q j ≡ byte q j
byte-with_bytes v byte q j inside within =
    rw (register-with_bytes v byte q inside) (get-tabulate (length (slice_index_or v q [])) (byte q) j 0 within)

-- a bit after a write
bit-with_bytes : (size : ℕ) (v : List (List ℕ)) (byte : ℕ → ℕ → ℕ) (q i : ℕ) → AreRegisters size v → q < 32 → i < 8 * size
    → bits_of (with_bytes v byte) q i ≡ bit_of (byte q (i / 8)) (i % 8)
unfolding bits_of
bit-with_bytes size v byte q i are inside within =
    let count : length v ≡ 32 = are.count in
    let long : length (slice_index_or v q []) ≡ size = are.sizes q inside in
    let upper : i / 8 < size = omega (arith, div-add-mod' i 8) in
    rw (byte-with_bytes v byte q (i / 8) (omega arith) (omega arith)) refl

-- a write of bytes leaves registers
pub keeps-registers : (size : ℕ) (v : List (List ℕ)) (byte : ℕ → ℕ → ℕ) → AreRegisters size v → ((q j : ℕ) → byte q j < 2 ^ 8) → AreRegisters size (with_bytes v byte)
keeps-registers size v byte are small = record {
  count = count-with_bytes v byte ∙ are.count;
  sizes = λ q inside.
      let count : length v ≡ 32 = are.count in
      rw (register-with_bytes v byte q (omega arith)) (length-tabulate (length (slice_index_or v q [])) (byte q)) ∙ are.sizes q inside;
  bytes = λ q j.
      let count : length v ≡ 32 = are.count in
      ⊎_elim
      (λ (inside : q < 32).
      let long : length (slice_index_or v q []) ≡ size = are.sizes q inside in
      ⊎_elim
      (λ (within : j < size). rw (byte-with_bytes v byte q j (omega arith) (omega arith)) (small q j))
      (λ (past : size ≤ j).
      let short : length (tabulate (length (slice_index_or v q [])) (byte q)) ≤ j = omega (arith, length-tabulate (length (slice_index_or v q [])) (byte q)) in
      rw (register-with_bytes v byte q (omega arith), get_or_past (tabulate (length (slice_index_or v q [])) (byte q)) j 0 short) (omega arith))
      (cases_lt j size))
      (λ (past : 32 ≤ q).
      let short : length (with_bytes v byte) ≤ q = omega (arith, count-with_bytes v byte) in
      rw (get_or_past (with_bytes v byte) q [] short) (omega arith))
      (cases_lt q 32);
}

-- a bit of a number that a test chooses
bit-cond : (t : Bool) (x y b : ℕ) → bit_of (cond t x y) b ≡ cond t (bit_of x b) (bit_of y b)
bit-cond true x y b = refl
bit-cond false x y b = refl

-- the place of a bit among the bits of a group, from that of its byte
bit-in-group : (size r q j b : ℕ) → place_in_group (8 * size) r q (8 * j + b) ≡ 8 * place_in_group size r q j + b
bit-in-group size r q j b = moved (q - r)
  where
    moved : (d : ℕ) → d * (8 * size) + (8 * j + b) ≡ 8 * (d * size + j) + b
    moved d = omega arith

-- a bit of a byte of elements of n bytes, from the place of the byte
bit-of-elements : (n p b : ℕ) (value : ℕ → ℕ) → b < 8 → 0 < n
    → bit_of (byte_of (value (p / n)) (p % n)) b ≡ bit_of (value ((8 * p + b) / (8 * n))) ((8 * p + b) % (8 * n))
bit-of-elements n p b value inside positive =
    let parts = place-parts n p b inside positive in
    rw (parts.0, parts.1) (bit-byte (value (p / n)) (p % n) b inside)

same-choice : (t : Bool) (x y z : Bool) → x ≡ y → cond t x z ≡ cond t y z
same-choice t x y z e = ap (λ (u : Bool). cond t u z) e

-- bit b of byte j
elements-at : (size : ℕ) (v : List (List ℕ)) (r count w : ℕ) (value : ℕ → ℕ) (q j b : ℕ) → AreRegisters size v → 8 * (w / 8) ≡ w → 0 < w → q < 32 → j < size → b < 8
    → bits_of (with_elements size v r count w value) q (8 * j + b) ≡ with_elements_in (8 * size) (bits_of v) r count w value q (8 * j + b)
unfolding with_elements with_elements_in bits_of
elements-at size v r count w value q j b are whole wide inside within low =
    let n = w / 8 in
    let p = place_in_group size r q j in
    let t = leb r q && ltb q (r + count) in
    let byte : ℕ → ℕ → ℕ = λ q j. cond (leb r q && ltb q (r + count)) (byte_of (value (place_in_group size r q j / (w / 8))) (place_in_group size r q j % (w / 8))) (byte_at v q j) in
    let written : bits_of (with_bytes v byte) q (8 * j + b) ≡ bit_of (byte q ((8 * j + b) / 8)) ((8 * j + b) % 8) =
    bit-with_bytes size v byte q (8 * j + b) are inside (omega arith) in
    let P : ℕ → Type 0 = λ x. bit_of (byte_of (value (p / n)) (p % n)) b ≡ bit_of (value ((8 * p + b) / x)) ((8 * p + b) % x) in
    let element : bit_of (byte_of (value (p / n)) (p % n)) b ≡ bit_of (value ((8 * p + b) / w)) ((8 * p + b) % w) =
    subst P whole (bit-of-elements n p b value low (omega arith)) in
    written
    ∙ rw (byte-place j b low, bit-place j b low, bit-in-group size r q j b) (bit-cond t (byte_of (value (p / n)) (p % n)) (byte_at v q j) b
    ∙ same-choice t (bit_of (byte_of (value (p / n)) (p % n)) b) (bit_of (value ((8 * p + b) / w)) ((8 * p + b) % w)) (bit_of (byte_at v q j) b) element)

-- Elements that are written, as bits.
pub bits-with_elements : (size : ℕ) (v : List (List ℕ)) (r count w : ℕ) (value : ℕ → ℕ) (q i : ℕ) → AreRegisters size v → 8 * (w / 8) ≡ w → 0 < w → q < 32 → i < 8 * size
    → bits_of (with_elements size v r count w value) q i ≡ with_elements_in (8 * size) (bits_of v) r count w value q i
bits-with_elements size v r count w value q i are whole wide inside within =
    let parts : 8 * (i / 8) + i % 8 ≡ i = omega (arith, div-add-mod' i 8) in
    let P : ℕ → Type 0 = λ x. bits_of (with_elements size v r count w value) q x ≡ with_elements_in (8 * size) (bits_of v) r count w value q x in
    let upper : i / 8 < size = omega (arith, div-add-mod' i 8) in
    subst P parts (elements-at size v r count w value q (i / 8) (i % 8) are whole wide inside upper (mod-lt i (omega arith)))

-- the place of a byte of a group, from its register and its place there
place-again : (size r t : ℕ) → place_in_group size r (r + t / size) (t % size) ≡ t
place-again size r t = let e : r + t / size - r ≡ t / size = omega arith in rw e (div-add-mod' t size)

-- a byte of a group after a write
group-with_bytes : (size : ℕ) (v : List (List ℕ)) (byte : ℕ → ℕ → ℕ) (r t : ℕ) → AreRegisters size v → 0 < size → r + t / size < 32
    → group_byte size (with_bytes v byte) r t ≡ byte (r + t / size) (t % size)
group-with_bytes size v byte r t are positive inside =
    let count : length v ≡ 32 = are.count in
    let long : length (slice_index_or v (r + t / size) []) ≡ size = are.sizes (r + t / size) inside in
    let rest : t % size < size = mod-lt t positive in
    byte-with_bytes v byte (r + t / size) (t % size) (omega arith) (omega arith)

-- Elements that are written are read again.
pub element-with_elements : (size : ℕ) (v : List (List ℕ)) (r count w : ℕ) (value : ℕ → ℕ) (e : ℕ) → AreRegisters size v → 0 < size → r + count ≤ 32 → 8 * (w / 8) ≡ w → (e + 1) * (w / 8) ≤ count * size
    → element_of size (with_elements size v r count w value) r w e ≡ low w (value e)
unfolding element_of with_elements
element-with_elements size v r count w value e are positive room whole inside =
    let n = w / 8 in
    let byte : ℕ → ℕ → ℕ = λ q j. cond (leb r q && ltb q (r + count)) (byte_of (value (place_in_group size r q j / (w / 8))) (place_in_group size r q j % (w / 8))) (byte_at v q j) in
    let P : ℕ → Type 0 = λ x. little n (byte_of (value e)) ≡ low x (value e) in
    little-same n (λ k. group_byte size (with_bytes v byte) r (e * n + k)) (byte_of (value e)) (λ k below.
    let t = e * n + k in
    let within : t / size < count = (div-lt_iff_lt-mul positive).1 (omega arith) in
    let room_here : r + t / size < 32 = omega arith in
    group-with_bytes size v byte r t are positive room_here
    ∙ rw (le-leb r (r + t / size) (omega arith), lt-ltb (r + t / size) (r + count) (omega arith), place-again size r t, div-mul-add e n k below, mod-mul-add e n k below) refl)
    ∙ subst P whole (little-bytes n (value e))

-- An element that is written is read again, and every other element of its group is as it was.
pub element-with_element : (size : ℕ) (v : List (List ℕ)) (r w e z f : ℕ) → AreRegisters size v → 0 < size → 8 * (w / 8) ≡ w → (f + 1) * (w / 8) ≤ (32 - r) * size
    → element_of size (with_element size v r w e z) r w f ≡ cond (eqb f e) (low w z) (element_of size v r w f)
unfolding element_of with_element
element-with_element size v r w e z f are positive whole inside =
    let n = w / 8 in
    let byte : ℕ → ℕ → ℕ = λ q j. cond (leb r q && eqb (place_in_group size r q j / (w / 8)) e) (byte_of z (place_in_group size r q j % (w / 8))) (byte_at v q j) in
    little-same n (λ k. group_byte size (with_bytes v byte) r (f * n + k)) (λ k. cond (eqb f e) (byte_of z k) (group_byte size v r (f * n + k))) (λ k below.
    let t = f * n + k in
    let within : t / size < 32 - r = (div-lt_iff_lt-mul positive).1 (omega arith) in
    group-with_bytes size v byte r t are positive (omega arith)
    ∙ rw (le-leb r (r + t / size) (omega arith), place-again size r t, div-mul-add f n k below, mod-mul-add f n k below) refl)
    ∙ chosen (eqb f e)
  where
    chosen : (t : Bool) → little (w / 8) (λ k. cond t (byte_of z k) (group_byte size v r (f * (w / 8) + k))) ≡ cond t (low w z) (little (w / 8) (λ k. group_byte size v r (f * (w / 8) + k)))
    chosen true = let P : ℕ → Type 0 = λ x. little (w / 8) (byte_of z) ≡ low x z in subst P whole (little-bytes (w / 8) z)
    chosen false = refl

-- A mask that is written, as bits.
pub bits-with_mask : (size : ℕ) (v : List (List ℕ)) (r : ℕ) (bit : ℕ → Bool) (q i : ℕ) → AreRegisters size v → q < 32 → i < 8 * size
    → bits_of (with_mask v r bit) q i ≡ cond (eqb q r) (bit i) (bits_of v q i)
unfolding with_mask bits_of
bits-with_mask size v r bit q i are inside within =
    let parts : 8 * (i / 8) + i % 8 ≡ i = omega (arith, div-add-mod' i 8) in
    let byte : ℕ → ℕ → ℕ = λ q j. cond (eqb q r) (number 8 (λ b. bit (8 * j + b))) (byte_at v q j) in
    let read : bit_of (number 8 (λ b. bit (8 * (i / 8) + b))) (i % 8) ≡ bit (8 * (i / 8) + i % 8) =
    bit-number 8 (λ b. bit (8 * (i / 8) + b)) (i % 8) (mod-lt i (omega arith)) in
    bit-with_bytes size v byte q i are inside within
    ∙ bit-cond (eqb q r) (number 8 (λ b. bit (8 * (i / 8) + b))) (byte_at v q (i / 8)) (i % 8)
    ∙ same-choice (eqb q r) (bit_of (number 8 (λ b. bit (8 * (i / 8) + b))) (i % 8)) (bit i) (bits_of v q i) (read ∙ ap bit parts)

-- a byte that is written, or stays
either-small : (t : Bool) (x y : ℕ) → x < 2 ^ 8 → y < 2 ^ 8 → cond t x y < 2 ^ 8
either-small true x y p q = p
either-small false x y p q = q

-- registers whose elements are written are registers
pub registers-with_elements : (size : ℕ) (v : List (List ℕ)) (r count w : ℕ) (value : ℕ → ℕ) → AreRegisters size v → AreRegisters size (with_elements size v r count w value)
unfolding with_elements
registers-with_elements size v r count w value are =
    keeps-registers size v (λ q j. cond (leb r q && ltb q (r + count)) (byte_of (value (place_in_group size r q j / (w / 8))) (place_in_group size r q j % (w / 8))) (byte_at v q j)) are (λ q j.
    either-small (leb r q && ltb q (r + count)) (byte_of (value (place_in_group size r q j / (w / 8))) (place_in_group size r q j % (w / 8))) (byte_at v q j)
    (mod-lt (value (place_in_group size r q j / (w / 8)) / 2 ^ (8 * (place_in_group size r q j % (w / 8)))) (omega arith)) (are.bytes q j))

pub registers-with_element : (size : ℕ) (v : List (List ℕ)) (r w e z : ℕ) → AreRegisters size v → AreRegisters size (with_element size v r w e z)
unfolding with_element
registers-with_element size v r w e z are =
    keeps-registers size v (λ q j. cond (leb r q && eqb (place_in_group size r q j / (w / 8)) e) (byte_of z (place_in_group size r q j % (w / 8))) (byte_at v q j)) are (λ q j.
    either-small (leb r q && eqb (place_in_group size r q j / (w / 8)) e) (byte_of z (place_in_group size r q j % (w / 8))) (byte_at v q j)
    (mod-lt (z / 2 ^ (8 * (place_in_group size r q j % (w / 8)))) (omega arith)) (are.bytes q j))

pub registers-with_mask : (size : ℕ) (v : List (List ℕ)) (r : ℕ) (bit : ℕ → Bool) → AreRegisters size v → AreRegisters size (with_mask v r bit)
unfolding with_mask
registers-with_mask size v r bit are =
    keeps-registers size v (λ q j. cond (eqb q r) (number 8 (λ b. bit (8 * j + b))) (byte_at v q j)) are (λ q j.
    either-small (eqb q r) (number 8 (λ b. bit (8 * j + b))) (byte_at v q j) (number-lt 8 (λ b. bit (8 * j + b))) (are.bytes q j))
