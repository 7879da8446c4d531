-- What a load that has come to an element left of the mask and of the indices that are still to be read.
use Rattle.std.proofs.Common.{◌≡◌, ℕ, suc, ◌+◌, ◌-◌, ◌*◌, ◌/◌, ◌%◌, ◌<◌, ◌≤◌, Bool, true, false, cond, ◌&&◌, List, [], length, get_or, leb, ltb, refl, sym, ◌∙◌, ap, arith, ◌⊎◌, inl, inr, ⊎_elim}
use Rattle.std.proofs.lemmas.Bool.{cases_lt, cases_Bool, lt-ltb, le-leb, lt-leb, le-ltb}
use Rattle.std.proofs.lemmas.Nat.{div-add-mod'}
use Rattle.std.proofs.Math.Nat.{mod-lt, mod-eq_of_lt, mul-le-mul_right, div-lt_iff_lt-mul}
use Rattle.bit_laws.specs.Numbers.{low, byte_of, bit_of}
use Rattle.bit_laws.proofs.Numbers.{little-same}
use Rattle.element_ops.specs.Elements.{AreRegisters, byte_at, group_byte, element_of, mask_bit_of, with_elements, place_in_group}
use Rattle.element_ops.proofs.Writing.{byte-with_bytes}
use Rattle.guest_mem.specs.Pages.{Pages}
use Rattle.vtype_cfg.specs.declared.configuration.Cfg.{Cfg}
use Rattle.rvv_meaning.specs.Elementwise.{size_of}
use Rattle.rvv_meaning.specs.declared.accesses.Offset.{Offset}
use Rattle.rvv_meaning.specs.declared.accesses.Offset.TheVariants.{Step, Index}
use Rattle.rvv_meaning.specs.declared.accesses.Access.{Access}
use Rattle.rvv_meaning.specs.LoadsAndStores.{field_size, per_field, distance, address, is_unmasked, slot_after, loaded_by}
use Rattle.vec_mem.specs.Steps.{Fits, FitsLoad, OffsetFits, SparesIndex, IndexFits, IsSpared}
use Rattle.element_ops.proofs.Groups.{old-byte}
use Rattle.vec_mem.proofs.Loading.{below, per-whole, is-wide}

-- a byte of a group after its elements are written
pub byte-of-elements : (size : ℕ) (v : List (List ℕ)) (r count w : ℕ) (g : ℕ → ℕ) (q j : ℕ) → AreRegisters size v → q < 32 → j < size
    → byte_at (with_elements size v r count w g) q j ≡ cond (leb r q && ltb q (r + count)) (byte_of (g (place_in_group size r q j / (w / 8))) (place_in_group size r q j % (w / 8))) (byte_at v q j)
unfolding with_elements
byte-of-elements size v r count w g q j are inside within =
    let count_v : length v ≡ 32 = are.count in
    let long : length (get_or v q []) ≡ size = are.sizes q inside in
    byte-with_bytes v (λ q j. cond (leb r q && ltb q (r + count)) (byte_of (g (place_in_group size r q j / (w / 8))) (place_in_group size r q j % (w / 8))) (byte_at v q j)) q j (omega arith) (omega arith)

-- a register below and one after, by their places
before-group : (size q j r : ℕ) → q * size + j < r * size → q < r
before-group size q j r less =
    ⊎_elim (λ (l : q < r). l) (λ (g : r ≤ q). let m : r * size ≤ q * size = mul-le-mul_right size g in absurd (omega arith)) (cases_lt q r)

group-after : (size q j r : ℕ) → j < size → r * size ≤ q * size + j → r ≤ q
group-after size q j r within more =
    ⊎_elim (λ (l : q < r). let m : suc q * size ≤ r * size = mul-le-mul_right size l in absurd (omega arith)) (λ (g : r ≤ q). g) (cases_lt q r)

module _ (c : Cfg) (t : Access) (n : ℕ) (words : size_of c ≡ 4 * n) (fits : Fits c t) (load : FitsLoad c t) (base : ℕ) (v : List (List ℕ)) (pages : Pages) (ones : Bool) (are : AreRegisters (size_of c) v) (some : 0 < n) where
  abbrev there : ℕ → List (List ℕ)
  there e = below c t n words fits base v pages ones are e

  -- the mask
  mask-stays : (e x : ℕ) → x < t.len → 0 < t.register → mask_bit_of (there e) 0 x ≡ mask_bit_of v 0 x
  unfolding loaded_by
  mask-stays e x inside spared =
      let within : x / 8 < size_of c = omega (arith, fits.short) in
      let off : leb t.register 0 ≡ false = lt-leb t.register 0 spared in
      ap (λ (b : ℕ). bit_of b (x % 8)) (
      byte-of-elements (size_of c) v t.register (t.fields * t.registers) t.width (λ s. slot_after c t base v pages ones (ltb (s % per_field c t) e) s) 0 (x / 8) are (omega arith) within
      ∙ rw off refl)

  pub unmasked-stays : (e x : ℕ) → x < t.len → is_unmasked c t base (there e) x ≡ is_unmasked c t base v x
  unmasked-stays e x inside =
      ⊎_elim
      (λ (masked : t.masked ≡ true). rw (mask-stays e x inside (load.mask masked)) refl)
      (λ (plain : t.masked ≡ false). rw plain refl)
      (cases_Bool t.masked)

  -- a byte at a place that is spared
  byte-stays : (e q j : ℕ) → e < t.len → q < 32 → j < size_of c
      → (q * size_of c + j < t.register * size_of c) ⊎ (((t.register + t.fields * t.registers) * size_of c ≤ q * size_of c + j) ⊎ ((t.fields ≡ 1) × (t.register * size_of c + e * field_size t ≤ q * size_of c + j)))
      → byte_at (there e) q j ≡ byte_at v q j
  unfolding loaded_by slot_after
  byte-stays e q j inside register within spared =
      let size = size_of c in
      let m = t.width / 8 in
      let per = per_field c t in
      let r = t.register in
      let count = t.fields * t.registers in
      let g : ℕ → ℕ = λ s. slot_after c t base v pages ones (ltb (s % per) e) s in
      byte-of-elements size v r count t.width g q j are register within
      ∙ ⊎_elim
      (λ (before : q * size + j < r * size). rw (lt-leb r q (before-group size q j r before)) refl)
      (λ (other : ((r + count) * size ≤ q * size + j) ⊎ ((t.fields ≡ 1) × (r * size + e * field_size t ≤ q * size + j))).
      ⊎_elim
      (λ (past : (r + count) * size ≤ q * size + j). rw (le-ltb q (r + count) (group-after size q j (r + count) within past)) (never (leb r q) (byte_of (g (place_in_group size r q j / m)) (place_in_group size r q j % m)) (byte_at v q j)))
      (λ (later : (t.fields ≡ 1) × (r * size + e * field_size t ≤ q * size + j)).
      let from : r ≤ q = group-after size q j r within (omega (arith, later.1)) in
      ⊎_elim
      (λ (last : q < r + count).
      let p = place_in_group size r q j in
      let wide : 0 < m = omega (arith, is-wide c t n words fits, fits.whole) in
      let split : q * size ≡ r * size + (q - r) * size = apart q r size from in
      let low_p : e * m ≤ p = omega (arith, later.1) in
      let lies : (q - r + 1) * size ≤ count * size = mul-le-mul_right size (omega arith) in
      let one : count ≡ t.registers = rw later.0 (omega arith) in
      let same : count * size ≡ per * m = rw one (sym (per-whole c t n words fits)) in
      let high_p : p < per * m = omega arith in
      let slot : p / m < per = (div-lt_iff_lt-mul wide).1 high_p in
      let order : e ≤ p / m = ⊎_elim (λ (l : p / m < e). let k : suc (p / m) * m ≤ e * m = mul-le-mul_right m l in let parts : p / m * m + p % m ≡ p = div-add-mod' p m in let rest : p % m < m = mod-lt p wide in absurd (omega arith)) (λ (l : e ≤ p / m). l) (cases_lt (p / m) e) in
      let here : p / m % per ≡ p / m = mod-eq_of_lt slot in
      rw (le-leb r q from, lt-ltb q (r + count) last, here, le-ltb (p / m) e order) (old-byte size v r t.width q j are wide from within))
      (λ (out : r + count ≤ q). rw (le-ltb q (r + count) out) (never (leb r q) (byte_of (g (place_in_group size r q j / m)) (place_in_group size r q j % m)) (byte_at v q j)))
      (cases_lt q (r + count)))
      other)
      spared
    where
      never : (t : Bool) (x y : ℕ) → cond (t && false) x y ≡ y
      never true x y = refl
      never false x y = refl

      apart : (q r size : ℕ) → r ≤ q → q * size ≡ r * size + (q - r) * size
      apart q r size from = let d : q ≡ r + (q - r) = omega arith in moved (q - r) d
        where
          moved : (d : ℕ) → q ≡ r + d → q * size ≡ r * size + d * size
          moved d e = rw e (omega arith)

  -- an index that is still to be read
  index-stays : (r w e x : ℕ) → e ≤ x → x < t.len → IndexFits c t r w → ((k : ℕ) → k < w / 8 → IsSpared (size_of c) r (w / 8) t x k) → element_of (size_of c) (there e) r w x ≡ element_of (size_of c) v r w x
  unfolding element_of
  index-stays r w e x order inside index spared =
      let size = size_of c in
      let b = w / 8 in
      little-same b (λ k. group_byte size (there e) r (x * b + k)) (λ k. group_byte size v r (x * b + k)) (λ k lower.
      let at = x * b + k in
      let positive : 0 < size = omega arith in
      let parts : at / size * size + at % size ≡ at = div-add-mod' at size in
      let rest : at % size < size = mod-lt at positive in
      let scaled : suc x * b ≤ t.len * b = mul-le-mul_right b inside in
      let below_end : at < (32 - r) * size = omega (arith, index.room) in
      let register : at / size < 32 - r = (div-lt_iff_lt-mul positive).1 below_end in
      let place : (r + at / size) * size + at % size ≡ r * size + at = omega arith in
      let earlier : e * field_size t ≤ x * field_size t = mul-le-mul_right (field_size t) order in
      byte-stays e (r + at / size) (at % size) (omega arith) (omega arith) rest (rw place (weaker (r * size + at) (spared k lower) earlier)))
    where
      weaker : (p : ℕ) → (p < t.register * size_of c) ⊎ (((t.register + t.fields * t.registers) * size_of c ≤ p) ⊎ ((t.fields ≡ 1) × (t.register * size_of c + x * field_size t ≤ p))) → e * field_size t ≤ x * field_size t
          → (p < t.register * size_of c) ⊎ (((t.register + t.fields * t.registers) * size_of c ≤ p) ⊎ ((t.fields ≡ 1) × (t.register * size_of c + e * field_size t ≤ p)))
      weaker p (inl h) earlier = inl h
      weaker p (inr (inl h)) earlier = inr (inl h)
      weaker p (inr (inr h)) earlier = inr (inr (h.0, omega (arith, h.1)))

  distance-by : (o : Offset) (e x : ℕ) → e ≤ x → x < t.len → OffsetFits o c t → SparesIndex o c t → distance o c (there e) x ≡ distance o c v x
  distance-by (Step s) e x order inside fit spare = refl
  distance-by (Index r w) e x order inside fit spare = index-stays r w e x order inside fit (λ k lower. spare x k inside lower)

  pub address-stays : (e x : ℕ) → e ≤ x → x < t.len → address c t base (there e) x ≡ address c t base v x
  unfolding address
  address-stays e x order inside = ap (λ (y : ℕ). low 32 (base + y)) (distance-by t.offset e x order inside fits.offset load.index)
