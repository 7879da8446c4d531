-- The registers that the load of a run comes to.
use Rattle.std.proofs.Common.{◌≡◌, ℕ, suc, ◌+◌, ◌-◌, ◌*◌, ◌/◌, ◌%◌, ◌^◌, ◌<◌, ◌≤◌, Bool, true, false, cond, ◌&&◌, ltb, leb, List, refl, sym, ◌∙◌, ap, arith, ⊎_elim}
use Rattle.std.proofs.lemmas.Bool.{cases_lt, lt-ltb, le-ltb, le-leb, lt-leb}
use Rattle.std.proofs.lemmas.Nat.{div-add-mod', div-mul-add, mod-mul-add}
use Rattle.std.proofs.Math.Nat.{mul-le-mul_right, div-lt_iff_lt-mul, mod-lt}
use Rattle.bit_laws.specs.Numbers.{low, byte_of}
use Rattle.element_ops.specs.Elements.{AreRegisters, byte_at, with_elements, place_in_group}
use Rattle.element_ops.proofs.Groups.{bytes-same, old-byte}
use Rattle.guest_mem.specs.Pages.{Pages, loaded}
use Rattle.vtype_cfg.specs.declared.configuration.Cfg.{Cfg}
use Rattle.rvv_meaning.specs.declared.accesses.Access.{Access}
use Rattle.rvv_meaning.specs.Elementwise.{size_of, is_ones}
use Rattle.rvv_meaning.specs.LoadsAndStores.{field_size, per_field, address, field_address, slot_after, loaded_by, old_slot}
use Rattle.bit_rows.specs.Slices.{Slices}
use Rattle.cam_chain.specs.Views.{registers_of}
use Rattle.cam_chain.proofs.Registers.{some-size, are-registers_of}
use Rattle.vec_mem.specs.Steps.{Fits}
use Rattle.vec_mem.specs.Runs.{with_run, byte_after}
use Rattle.vec_mem.proofs.Loading.{all-whole, fields-room}
use Rattle.vec_mem.proofs.Looping.{come_to}
use Rattle.vec_mem.proofs.RunElements.{IsRun, Runs, at-address, loaded-byte}

-- numbers and multiples
over : (a b m p : ℕ) → a ≤ b → b * m ≤ p → a * m ≤ p
over a b m p order below = let e : a * m ≤ b * m = mul-le-mul_right m order in omega arith

under : (s b m rest : ℕ) → s < b → rest < m → s * m + rest < b * m
under s b m rest less small = let e : suc s * m ≤ b * m = mul-le-mul_right m less in omega arith

small-parts : (per s : ℕ) → s < per → (s % per ≡ s) × (s / per ≡ 0)
small-parts per s below =
    let e : 0 * per + s ≡ s = omega arith in
    (rw e at (mod-mul-add 0 per s below), rw e at (div-mul-add 0 per s below))

module _ (c : Cfg) (t : Access) (n base : ℕ) (v : List (List ℕ)) (pages : Pages) (words : size_of c ≡ 4 * n) (fits : Fits c t) (run : IsRun t) (are : AreRegisters (size_of c) v) (order : c.vstart ≤ t.len) where
  abbrev m : ℕ
  m = field_size t

  abbrev per : ℕ
  per = per_field c t

  abbrev ones : Bool
  ones = is_ones c.policy

  abbrev value : ℕ → ℕ
  value s = slot_after c t base v pages ones (ltb (s % per) t.len) s

  some : 0 < m
  some = some-size m fits.size

  -- an element that is not reached
  value-before : (s : ℕ) → s < per → s < c.vstart → value s ≡ old_slot c t base v pages s
  unfolding slot_after
  value-before s inside less =
      let parts = small-parts per s inside in
      rw (parts.0, lt-ltb s t.len (omega arith), lt-ltb s c.vstart less) refl

  value-past : (s : ℕ) → s < per → t.len ≤ s → value s ≡ old_slot c t base v pages s
  unfolding slot_after
  value-past s inside past =
      let parts = small-parts per s inside in
      rw (parts.0, le-ltb s t.len past) refl

  -- an element that is loaded
  value-here : (s : ℕ) → s < per → c.vstart ≤ s → s < t.len → value s ≡ loaded pages (low 32 (base + s * m)) m
  unfolding slot_after field_address loaded address
  value-here s inside from less =
      let parts = small-parts per s inside in
      let spot : (low 32 (base + s * m) + 0 * m) % 2 ^ 32 ≡ low 32 (base + s * m) = omega arith in
      rw (parts.0, parts.1, lt-ltb s t.len less, le-ltb s c.vstart from, run.masked, at-address c t base v s run, spot) refl

  old-here : (q j s rest : ℕ) → t.register ≤ q → j < size_of c → s ≡ place_in_group (size_of c) t.register q j / m → rest ≡ place_in_group (size_of c) t.register q j % m
      → byte_of (old_slot c t base v pages s) rest ≡ byte_at v q j
  old-here q j s rest from below is_s is_rest = rw (is_s, is_rest) (old-byte (size_of c) v t.register t.width q j are some from below)

  module _ (small : (p : ℕ) → c.vstart * m ≤ p → p < t.len * m → byte_after pages base p < 2 ^ 8) where
    byte-here : (s rest : ℕ) → c.vstart ≤ s → s < t.len → rest < m → byte_of (loaded pages (low 32 (base + s * m)) m) rest ≡ byte_after pages base (s * m + rest)
    byte-here s rest from less inside =
        let same : (j : ℕ) → (low 32 (base + s * m) + j) % 2 ^ 32 ≡ (base + (s * m + j)) % 2 ^ 32 = λ j. omega arith in
        let low_end : c.vstart * m ≤ s * m = mul-le-mul_right m from in
        loaded-byte pages (low 32 (base + s * m)) m rest (omega arith) inside (λ j below. rw (same j) (small (s * m + j) (omega arith) (under s t.len m j less below)))
        ∙ rw (same rest) refl

    one-place : (q j p s rest : ℕ) → t.register ≤ q → j < size_of c → p ≡ place_in_group (size_of c) t.register q j → s ≡ p / m → rest ≡ p % m → s < per
        → byte_of (value s) rest ≡ cond (leb (c.vstart * m) p && ltb p (t.len * m)) (byte_after pages base p) (byte_at v q j)
    one-place q j p s rest from below is_p is_s is_rest inside =
        let parts : s * m + rest ≡ p = rw (is_s, is_rest) (div-add-mod' p m) in
        let tail : rest < m = rw is_rest (mod-lt p some) in
        let old = old-here q j s rest from below (rw (← is_p) is_s) (rw (← is_p) is_rest) in
        ⊎_elim
        (λ (early : s < c.vstart).
        let out : p < c.vstart * m = rw (← parts) (under s c.vstart m rest early tail) in
        rw (lt-leb (c.vstart * m) p out, value-before s inside early) old)
        (λ (reached : c.vstart ≤ s).
        let start : c.vstart * m ≤ p = over c.vstart s m p reached (omega arith) in
        rw (le-leb (c.vstart * m) p start) (
        ⊎_elim
        (λ (less : s < t.len).
        let end : p < t.len * m = rw (← parts) (under s t.len m rest less tail) in
        rw (lt-ltb p (t.len * m) end, value-here s inside reached less) (byte-here s rest reached less tail ∙ ap (byte_after pages base) parts))
        (λ (past : t.len ≤ s).
        let end : t.len * m ≤ p = over t.len s m p past (omega arith) in
        rw (le-ltb p (t.len * m) end, value-past s inside past) old)
        (cases_lt s t.len)))
        (cases_lt s c.vstart)

    pub run-comes : come_to c t base v pages t.len ≡ with_run (size_of c) v t.register (c.vstart * m) (t.len * m) (byte_after pages base)
    unfolding loaded_by with_elements with_run
    run-comes =
        let size = size_of c in
        let r = t.register in
        let count = t.fields * t.registers in
        let whole : count * size ≡ per * m = one-field t.fields (t.registers * size) count (per * m) size run.fields (all-whole c t n words fits) in
        let last : t.len * m ≤ count * size = rw whole (mul-le-mul_right m fits.len) in
        bytes-same v (λ q j. cond (leb r q && ltb q (r + count)) (byte_of (value (place_in_group size r q j / m)) (place_in_group size r q j % m)) (byte_at v q j))
        (λ q j. cond (leb r q && (leb (c.vstart * m) (place_in_group size r q j) && ltb (place_in_group size r q j) (t.len * m))) (byte_after pages base (place_in_group size r q j)) (byte_at v q j)) (λ q j inside within.
        let below : j < size = omega (arith, are.sizes q (omega (arith, are.count))) in
        let p = place_in_group size r q j in
        ⊎_elim
        (λ (l : q < r). rw (lt-leb r q l) refl)
        (λ (l : r ≤ q).
        rw (le-leb r q l) (
        ⊎_elim
        (λ (h : q < r + count).
        let lies : p < per * m = rw (← whole) (under (q - r) count size j (omega arith) below) in
        rw (lt-ltb q (r + count) h) (one-place q j p (p / m) (p % m) l below refl refl refl ((div-lt_iff_lt-mul some).1 lies)))
        (λ (h : r + count ≤ q).
        let past : count * size ≤ p = behind (q - r) count size j (omega arith) in
        rw (le-ltb q (r + count) h, le-ltb p (t.len * m) (omega arith)) (never (leb (c.vstart * m) p) (byte_after pages base p) (byte_at v q j)))
        (cases_lt q (r + count))))
        (cases_lt q r))
      where
        one-field : (f x count y size : ℕ) → f ≡ 1 → f * t.registers * size ≡ f * per * m → f * t.registers * size ≡ per * m
        one-field f x count y size is same = same ∙ rw is (omega arith)

        behind : (d k size j : ℕ) → k ≤ d → k * size ≤ d * size + j
        behind d k size j le = let e : k * size ≤ d * size = mul-le-mul_right size le in omega arith

        never : (a : Bool) (x y : ℕ) → y ≡ cond (a && false) x y
        never true x y = refl
        never false x y = refl

-- ---- as the code says it

pub run-room : (c : Cfg) (t : Access) (n size : ℕ) → c.vlen ≡ 32 * n → Fits c t → size ≡ field_size t → t.len * size ≤ (32 - t.register) * (4 * n)
run-room c t n size vlen fits is =
    let room = (fields-room c t n size (per_field c t) vlen fits is refl).0 in
    let most : t.len * size ≤ per_field c t * size = mul-le-mul_right size fits.len in
    let one : 1 * per_field c t ≤ t.fields * per_field c t = mul-le-mul_right (per_field c t) fits.some in
    let all : 1 * per_field c t * size ≤ t.fields * per_field c t * size = mul-le-mul_right size one in
    omega arith

pub run-come : (c : Cfg) (t : Access) (s : Slices) (base size : ℕ) (u : List (List ℕ)) (pages : Pages) → c.vlen ≡ 32 * s.columns → Fits c t → Runs c t base 4 pages → size ≡ field_size t
    → ((p : ℕ) → c.vstart * size ≤ p → p < t.len * size → byte_after pages base p < 2 ^ 8)
    → u ≡ with_run (4 * s.columns) (registers_of s) t.register (c.vstart * size) (t.len * size) (byte_after pages base)
    → u ≡ come_to c t base (registers_of s) pages t.len
run-come c t s base size u pages vlen fits r is small made =
    let words : size_of c ≡ 4 * s.columns = omega arith in
    let are : AreRegisters (size_of c) (registers_of s) = rw words (are-registers_of s) in
    made ∙ rw (is, ← words) (sym (run-comes c t s.columns base (registers_of s) pages words fits r.run are r.order (rw is at small)))
