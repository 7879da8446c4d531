-- What stays of registers where a group apart from them is written.
use Rattle.std.proofs.Common.{◌≡◌, ℕ, ◌+◌, ◌*◌, ◌/◌, ◌%◌, ◌<◌, ◌≤◌, Bool, true, false, cond, ◌&&◌, List, [], length, get_or, leb, ltb, refl, ◌∙◌, ap, arith, ◌⊎◌, inl, inr, ⊎_elim}
use Rattle.std.proofs.lemmas.Bool.{lt-leb, le-ltb}
use Rattle.std.proofs.Math.Nat.{mod-lt, div-lt_iff_lt-mul}
use Rattle.bit_laws.specs.Numbers.{byte_of, bit_of}
use Rattle.bit_laws.proofs.Numbers.{little-same}
use Rattle.element_ops.specs.Elements.{AreRegisters, byte_at, group_byte, element_of, mask_bit_of, with_elements, place_in_group}
use Rattle.element_ops.proofs.Writing.{byte-with_bytes}
use Rattle.element_moves.specs.Steps.{IsApart}

module _ (size : ℕ) (v : List (List ℕ)) (r count w : ℕ) (g : ℕ → ℕ) (are : AreRegisters size v) where
  -- a byte of a register apart from the group
  byte-stays : (q j : ℕ) → q < 32 → j < size → (q < r) ⊎ (r + count ≤ q) → byte_at (with_elements size v r count w g) q j ≡ byte_at v q j
  unfolding with_elements
  byte-stays q j inside within apart =
      let count_v : length v ≡ 32 = are.count in
      let long : length (get_or v q []) ≡ size = are.sizes q inside in
      byte-with_bytes v (λ q j. cond (leb r q && ltb q (r + count)) (byte_of (g (place_in_group size r q j / (w / 8))) (place_in_group size r q j % (w / 8))) (byte_at v q j)) q j (omega arith) (omega arith)
      ∙ ⊎_elim
      (λ (below : q < r). rw (lt-leb r q below) refl)
      (λ (past : r + count ≤ q). rw (le-ltb q (r + count) past) (never (leb r q) (byte_of (g (place_in_group size r q j / (w / 8))) (place_in_group size r q j % (w / 8))) (byte_at v q j)))
      apart
    where
      never : (t : Bool) (x y : ℕ) → cond (t && false) x y ≡ y
      never true x y = refl
      never false x y = refl

  -- a bit of it
  pub bit-stays : (q x : ℕ) → q < 32 → x < 8 * size → (q < r) ⊎ (r + count ≤ q) → mask_bit_of (with_elements size v r count w g) q x ≡ mask_bit_of v q x
  bit-stays q x inside within apart = ap (λ (b : ℕ). bit_of b (x % 8)) (byte-stays q (x / 8) inside (omega arith) apart)

  -- an element of m registers apart from it
  pub element-stays : (m first s e : ℕ) → IsApart count r m first → 0 < size → (e + 1) * (s / 8) ≤ m * size
      → element_of size (with_elements size v r count w g) first s e ≡ element_of size v first s e
  unfolding element_of
  element-stays m first s e apart positive inside =
      let b = s / 8 in
      little-same b (λ k. group_byte size (with_elements size v r count w g) first (e * b + k)) (λ k. group_byte size v first (e * b + k)) (λ k below.
      let at = e * b + k in
      let lies : at / size < m = (div-lt_iff_lt-mul positive).1 (omega arith) in
      let room : first + m ≤ 32 = apart.room in
      byte-stays (first + at / size) (at % size) (omega arith) (mod-lt at positive)
      (⊎_elim (λ (before : first + m ≤ r). inl (omega arith)) (λ (after : r + count ≤ first). inr (omega arith)) apart.apart))
