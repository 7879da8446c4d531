-- What one element more makes of the registers of a load.
use Rattle.std.proofs.Common.{◌≡◌, ℕ, zero, suc, ◌+◌, ◌-◌, ◌*◌, ◌/◌, ◌%◌, ◌^◌, ◌<◌, ◌≤◌, Bool, true, false, cond, ◌&&◌, ◌||◌, List, ◌∷◌, Option, Some, None, is_some, ltb, refl, sym, ◌∙◌, ap, arith, ◌⊎◌, ⊎_elim}
use Rattle.std.proofs.lemmas.Bool.{cases_lt, cases_eq, cases_Bool, eq-eqb, ne_eqb, lt-ltb, le-ltb}
use Rattle.std.proofs.lemmas.Nat.{div-mul-add, div-add-mod'}
use Rattle.std.proofs.Math.Nat.{mul-le-mul_right, div-lt_iff_lt-mul}
use Rattle.std.specs.List.{find, filter, range_with_len}
use Rattle.bit_laws.specs.Numbers.{low}
use Rattle.element_ops.specs.Elements.{AreRegisters, element_of, IsSize}
use Rattle.element_ops.specs.Places.{active, masked_off, tail}
use Rattle.element_ops.proofs.Writing.{registers-with_elements}
use Rattle.guest_mem.specs.Pages.{Pages, first_bad}
use Rattle.vtype_cfg.specs.declared.configuration.Cfg.{Cfg}
use Rattle.rvv_meaning.specs.Elementwise.{size_of, is_ones}
use Rattle.rvv_meaning.specs.declared.accesses.Offset.{Offset}
use Rattle.rvv_meaning.specs.declared.accesses.Offset.TheVariants.{Step, Index}
use Rattle.rvv_meaning.specs.declared.accesses.Access.{Access}
use Rattle.rvv_meaning.specs.LoadsAndStores.{field_size, element_size, per_field, address, field_address, is_unmasked, moved, bad, stop, place, old_slot, slot_at_place, slot_after, loaded_by, slots_below}
use Rattle.vec_mem.specs.Steps.{fields_written, all_written, values_at, ones_of, element_loaded, bad_if_moved, Fits, OffsetFits, IndexFits}
use Rattle.cam_chain.proofs.Registers.{some-size}
use Rattle.element_ops.proofs.Groups.{elements-same, elements-kept}
use Rattle.vec_mem.proofs.Segments.{fields-more, is_field_below}

-- ---- the elements of registers of n words

-- registers of whole words hold a whole number of elements
pub whole-slots : (g n size : ℕ) → IsSize size → g * (4 * n) / size * size ≡ g * (4 * n)
whole-slots g n size is =
    ⊎_elim (λ (e : size ≡ 1). rw e (omega arith)) (λ (other : (size ≡ 2) ⊎ (size ≡ 4)).
    ⊎_elim (λ (e : size ≡ 2). rw e (halves g n)) (λ (e : size ≡ 4). rw e (quarters g n)) other) is
  where
    halves : (g n : ℕ) → g * (4 * n) / 2 * 2 ≡ g * (4 * n)
    halves g n = let e : g * (4 * n) ≡ 2 * (g * n) * 2 + 0 = omega arith in rw (e, div-mul-add (2 * (g * n)) 2 0 (omega arith)) (omega arith)

    quarters : (g n : ℕ) → g * (4 * n) / 4 * 4 ≡ g * (4 * n)
    quarters g n = let e : g * (4 * n) ≡ (g * n) * 4 + 0 = omega arith in rw (e, div-mul-add (g * n) 4 0 (omega arith)) (omega arith)

module _ (c : Cfg) (t : Access) (n : ℕ) (words : size_of c ≡ 4 * n) (fits : Fits c t) where
  pub per-whole : per_field c t * field_size t ≡ t.registers * size_of c
  per-whole = rw words (whole-slots t.registers n (field_size t) fits.size)

  pub all-whole : t.fields * t.registers * size_of c ≡ t.fields * per_field c t * (t.width / 8)
  all-whole =
      let e = ap (λ (x : ℕ). t.fields * x) per-whole in
      omega arith

  pub is-wide : 0 < t.width
  is-wide = ⊎_elim (λ (e : field_size t ≡ 1). omega (arith, fits.whole)) (λ (other : (field_size t ≡ 2) ⊎ (field_size t ≡ 4)). ⊎_elim (λ (e : field_size t ≡ 2). omega (arith, fits.whole)) (λ (e : field_size t ≡ 4). omega (arith, fits.whole)) other) fits.size

  module _ (base : ℕ) (v : List (List ℕ)) (pages : Pages) (ones : Bool) (are : AreRegisters (size_of c) v) where
    -- the registers where the elements below one are done
    abbrev pub below : ℕ → List (List ℕ)
    below e = loaded_by c t base v pages (λ s. ones) (slots_below c t base v pages e)

    abbrev value_below : ℕ → ℕ → ℕ
    value_below e s = slot_after c t base v pages ones (ltb (s % per_field c t) e) s

    pub registers-below : (e : ℕ) → AreRegisters (size_of c) (below e)
    unfolding loaded_by
    registers-below e = registers-with_elements (size_of c) v t.register (t.fields * t.registers) t.width (value_below e) are

    same-below : (e f : ℕ) → ((s : ℕ) → s < t.fields * per_field c t → value_below e s ≡ value_below f s) → below e ≡ below f
    unfolding loaded_by
    same-below e f same =
        elements-same (size_of c) v t.register (t.fields * t.registers) t.width (t.fields * per_field c t) (value_below e) (value_below f) are fits.whole is-wide (omega (arith, all-whole)) (λ s inside. ap (low t.width) (same s inside))

    -- elements that stay
    pub rest-stays : (e f : ℕ) → e ≤ f → ((x s : ℕ) → e ≤ x → x < f → slot_at_place c t base v pages ones (place c t base v pages x) s (s / per_field c t) x ≡ old_slot c t base v pages s) → below e ≡ below f
    unfolding slot_after
    rest-stays e f order stays =
        same-below e f (λ s inside.
        let x = s % per_field c t in
        ⊎_elim
        (λ (done : x < e). rw (lt-ltb x e done, lt-ltb x f (omega arith)) refl)
        (λ (open_here : e ≤ x).
        rw (le-ltb x e open_here) (
        ⊎_elim
        (λ (more : x < f). rw (lt-ltb x f more) (sym (stays x s open_here more)))
        (λ (past : f ≤ x). rw (le-ltb x f past) refl)
        (cases_lt x f)))
        (cases_lt x e))

    -- an element whose fields get what becomes of them
    pub one-more : (e : ℕ) (value : ℕ → ℕ) → e < per_field c t
        → ((f : ℕ) → f < t.fields → value f ≡ slot_at_place c t base v pages ones (place c t base v pages e) (f * per_field c t + e) f e)
        → all_written c t (below e) e value ≡ below (e + 1)
    unfolding slot_after loaded_by
    one-more e value inside gives =
        let per = per_field c t in
        fields-more (size_of c) v t.register (t.fields * t.registers) t.width (t.fields * per) per e (value_below e) value t.fields are fits.whole is-wide all-whole inside (omega arith)
        ∙ elements-same (size_of c) v t.register (t.fields * t.registers) t.width (t.fields * per) (λ s. cond (is_field_below per e t.fields s) (value (s / per)) (value_below e s)) (value_below (e + 1)) are fits.whole is-wide (omega (arith, all-whole)) (λ s within.
        ap (low t.width) (
        let x = s % per in
        let some_slots : 0 < per = omega arith in
        let field : s / per < t.fields = (div-lt_iff_lt-mul some_slots).1 within in
        ⊎_elim
        (λ (here : x ≡ e).
        let parts : s / per * per + s % per ≡ s = div-add-mod' s per in
        let slot : s / per * per + e ≡ s = rw here at parts in
        let given = gives (s / per) field in
        rw (here, eq-eqb e e refl, lt-ltb (s / per) t.fields field, lt-ltb e (e + 1) (omega arith)) (rw slot at given))
        (λ (there : x ≡ e → ⊥).
        rw (ne_eqb x e there) (
        ⊎_elim
        (λ (less : x < e). rw (lt-ltb x e less, lt-ltb x (e + 1) (omega arith)) refl)
        (λ (more : e ≤ x). let past : e + 1 ≤ x = omega arith in rw (le-ltb x e more, le-ltb x (e + 1) past) refl)
        (cases_lt x e)))
        (cases_eq x e)))

    -- nothing is done before the first element
    pub nothing-below : (e : ℕ) → e ≤ c.vstart → 0 < size_of c → below e ≡ v
    unfolding loaded_by slot_after
    nothing-below e first some =
        elements-same (size_of c) v t.register (t.fields * t.registers) t.width (t.fields * per_field c t) (value_below e) (old_slot c t base v pages) are fits.whole is-wide (omega (arith, all-whole)) (λ s inside.
        ap (low t.width) (
        let x = s % per_field c t in
        ⊎_elim
        (λ (done : x < e). rw (lt-ltb x e done, lt-ltb x c.vstart (omega arith)) refl)
        (λ (open_here : e ≤ x). rw (le-ltb x e open_here) refl)
        (cases_lt x e)))
        ∙ elements-kept (size_of c) v t.register (t.fields * t.registers) t.width are some fits.whole is-wide

    -- the place of an element that the loop comes to
    place-inside : (e : ℕ) → c.vstart ≤ e → e < t.len → place c t base v pages e ≡ cond (is_unmasked c t base v e) active masked_off
    place-inside e from inside = rw (le-ltb e c.vstart from, lt-ltb e t.len inside) refl

    place-after : (e : ℕ) → c.vstart ≤ e → t.len ≤ e → place c t base v pages e ≡ tail
    place-after e from past = rw (le-ltb e c.vstart from, le-ltb e t.len past) refl

    -- the loop's step: what the code does to one element
    pub element-step : (u : List (List ℕ)) (e : ℕ) → u ≡ below e → c.vstart ≤ e → e < t.len → ones ≡ is_ones c.policy → is_unmasked c t base u e ≡ is_unmasked c t base v e → address c t base u e ≡ address c t base v e
        → element_loaded c t base pages u e ≡ below (e + 1)
    unfolding element_loaded field_address
    element-step u e done from inside policy mask where_it_is =
        let within : e < per_field c t = omega (arith, fits.len) in
        let at = place-inside e from inside in
        rw (mask, where_it_is, done) (
        ⊎_elim
        (λ (there : is_unmasked c t base v e ≡ true).
        rw there (one-more e (values_at pages (field_size t) (address c t base v e)) within (λ f below. rw (at, there) refl)))
        (λ (off : is_unmasked c t base v e ≡ false).
        rw (off, ← policy) (
        ⊎_elim
        (λ (free : (ones && c.vtype.vma) ≡ true).
        rw free (one-more e (ones_of t.width) within (λ f below. rw (at, off, free) refl)))
        (λ (kept : (ones && c.vtype.vma) ≡ false).
        rw kept (rest-stays e (e + 1) (omega arith) (λ x s lower upper.
        let same : x ≡ e = omega arith in
        rw (same, at, off, kept) refl)))
        (cases_Bool (ones && c.vtype.vma))))
        (cases_Bool (is_unmasked c t base v e)))

    -- the step of the tail
    pub tail-step : (u : List (List ℕ)) (e : ℕ) → u ≡ below e → c.vstart < t.len → t.len ≤ e → e < per_field c t → ones ≡ true → (t.agnostic_tail || c.vtype.vta) ≡ true
        → all_written c t u e (ones_of t.width) ≡ below (e + 1)
    tail-step u e done some past inside policy free =
        rw done (one-more e (ones_of t.width) inside (λ f below. rw (place-after e (omega arith) past, policy, lt-ltb c.vstart t.len some, free) refl))

    -- a tail that is not free
    pub tail-stays : (e f : ℕ) → t.len ≤ e → e ≤ f → (ones && (ltb c.vstart t.len && (t.agnostic_tail || c.vtype.vta))) ≡ false → below e ≡ below f
    tail-stays e f past order kept =
        rest-stays e f order (λ x s lower upper.
        ⊎_elim
        (λ (before : x < c.vstart). rw (lt-ltb x c.vstart before) refl)
        (λ (from : c.vstart ≤ x). rw (place-after x from (omega arith), kept) refl)
        (cases_lt x c.vstart))

-- ---- the first element that stops it

module _ (c : Cfg) (t : Access) (base : ℕ) (v : List (List ℕ)) (need : ℕ) (pages : Pages) where
  -- the first one from an element on
  unfoldable pub stop_from : ℕ → Option ℕ
  stop_from e = find (λ x. is_some (bad c t base v need pages x)) (filter (is_unmasked c t base v) (range_with_len e (t.len - e)))

  pub stop-from-start : stop c t base v need pages ≡ stop_from c.vstart
  unfolding stop stop_from moved
  stop-from-start = refl

  pub stop-past : (e : ℕ) → t.len ≤ e → stop_from e ≡ None
  unfolding stop_from
  stop-past e past = let none : t.len - e ≡ 0 = omega arith in rw none refl

  pub stop-step : (e : ℕ) → e < t.len → stop_from e ≡ cond (is_unmasked c t base v e && is_some (bad c t base v need pages e)) (Some e) (stop_from (e + 1))
  unfolding stop_from
  stop-step e inside =
      let more : t.len - e ≡ suc (t.len - (e + 1)) = omega arith in
      rw more (
      elim (is_unmasked c t base v e) as (λ m. find (λ x. is_some (bad c t base v need pages x)) (cond m (e ∷ filter (is_unmasked c t base v) (range_with_len (e + 1) (t.len - (e + 1)))) (filter (is_unmasked c t base v) (range_with_len (e + 1) (t.len - (e + 1)))))
      ≡ cond (m && is_some (bad c t base v need pages e)) (Some e) (find (λ x. is_some (bad c t base v need pages x)) (filter (is_unmasked c t base v) (range_with_len (e + 1) (t.len - (e + 1)))))) [
        | true ↦ refl
        | false ↦ refl
      ])

-- ---- as the code says it

-- the fields of a transfer lie in the registers
pub fields-room : (c : Cfg) (t : Access) (n size per : ℕ) → c.vlen ≡ 32 * n → Fits c t → size ≡ field_size t → per ≡ per_field c t
    → (t.fields * per * size ≤ (32 - t.register) * (4 * n)) × (t.fields * per < 2 ^ 20)
fields-room c t n size per vlen fits is_size is_per =
    let words : size_of c ≡ 4 * n = omega arith in
    let whole = all-whole c t n words fits in
    let few : t.fields * t.registers ≤ 32 - t.register = omega (arith, fits.room) in
    let scaled : t.fields * t.registers * size_of c ≤ (32 - t.register) * size_of c = mul-le-mul_right (size_of c) few in
    let room : t.fields * per_field c t * field_size t ≤ (32 - t.register) * (4 * n) = rw (← words) (omega arith) in
    let some : 1 ≤ field_size t = some-size (field_size t) fits.size in
    let least : t.fields * per_field c t * 1 ≤ t.fields * per_field c t * field_size t = mul-le-mul_left' (t.fields * per_field c t) 1 (field_size t) some in
    let columns : n ≤ 2048 = omega (arith, fits.vlen) in
    let most : (32 - t.register) * (4 * n) ≤ 32 * (4 * n) = mul-le-mul_right (4 * n) (omega arith) in
    rw (is_size, is_per) (room, omega arith)
  where
    mul-le-mul_left' : (k a b : ℕ) → a ≤ b → k * a ≤ k * b
    mul-le-mul_left' k a b order = let e : a * k ≤ b * k = mul-le-mul_right k order in omega arith

pub as-all-written : (c : Cfg) (t : Access) (n size per e : ℕ) (v : List (List ℕ)) (value : ℕ → ℕ) → c.vlen ≡ 32 * n → Fits c t → size ≡ field_size t → per ≡ per_field c t
    → fields_written (4 * n) v t.register (8 * size) per e value t.fields ≡ all_written c t v e value
as-all-written c t n size per e v value vlen fits is_size is_per =
    let words : 4 * n ≡ size_of c = omega arith in
    let width : 8 * size ≡ t.width = rw is_size fits.whole in
    rw (words, width, is_per) refl

-- one element, as the code says it
module _ (c : Cfg) (t : Access) (base : ℕ) (pages : Pages) (u : List (List ℕ)) (e : ℕ) where
  pub loaded-moved : is_unmasked c t base u e ≡ true → all_written c t u e (values_at pages (field_size t) (address c t base u e)) ≡ element_loaded c t base pages u e
  unfolding element_loaded
  loaded-moved there = rw there refl

  pub loaded-agnostic : is_unmasked c t base u e ≡ false → (is_ones c.policy && c.vtype.vma) ≡ true → all_written c t u e (ones_of t.width) ≡ element_loaded c t base pages u e
  unfolding element_loaded
  loaded-agnostic off free = rw (off, free) refl

  pub loaded-kept : is_unmasked c t base u e ≡ false → (is_ones c.policy && c.vtype.vma) ≡ false → u ≡ element_loaded c t base pages u e
  unfolding element_loaded
  loaded-kept off kept = rw (off, kept) refl

-- the address, as the code computes it
pub step-address : (c : Cfg) (t : Access) (base step e : ℕ) (v : List (List ℕ)) → Step step ≡ t.offset → (base + e * step % 2 ^ 32) % 2 ^ 32 ≡ address c t base v e
unfolding address
step-address c t base step e v is = rw (← is) (omega arith)

pub index-address : (c : Cfg) (t : Access) (base r w n e x : ℕ) (v : List (List ℕ)) → Index r w ≡ t.offset → c.vlen ≡ 32 * n → 8 * (w / 8) ≡ w
    → x ≡ element_of (4 * n) v r (8 * (w / 8)) e → (base + x) % 2 ^ 32 ≡ address c t base v e
unfolding address
index-address c t base r w n e x v is vlen whole read =
    let words : size_of c ≡ 4 * n = omega arith in
    rw (← is, words, read, whole) refl

pub index-fits : (c : Cfg) (t : Access) (o : Offset) (r w : ℕ) → o ≡ Index r w → OffsetFits o c t → IndexFits c t r w
index-fits c t o r w is fits = rw is at fits

pub index-room : (c : Cfg) (t : Access) (r w n e : ℕ) → c.vlen ≡ 32 * n → IndexFits c t r w → e < t.len → (e + 1) * (w / 8) ≤ (32 - r) * (4 * n)
index-room c t r w n e vlen fits inside =
    let words : size_of c ≡ 4 * n = omega arith in
    let scaled : (e + 1) * (w / 8) ≤ t.len * (w / 8) = mul-le-mul_right (w / 8) (omega arith) in
    let room : t.len * (w / 8) ≤ (32 - r) * (4 * n) = rw (← words) fits.room in
    omega arith

pub bad-found : (c : Cfg) (t : Access) (base : ℕ) (u : List (List ℕ)) (need : ℕ) (pages : Pages) (e a len : ℕ) (r : Option ℕ)
    → is_unmasked c t base u e ≡ true → a ≡ address c t base u e → len ≡ element_size t → first_bad pages need a len ≡ r → r ≡ bad_if_moved c t base u need pages e
unfolding bad
bad-found c t base u need pages e a len r there at long found = rw there (sym found ∙ rw (at, long) refl)

pub none-masked : (c : Cfg) (t : Access) (base : ℕ) (u : List (List ℕ)) (need : ℕ) (pages : Pages) (e : ℕ) → is_unmasked c t base u e ≡ false → None ≡ bad_if_moved c t base u need pages e
none-masked c t base u need pages e off = rw off refl

-- the field of a slot
pub some-field : (c : Cfg) (t : Access) (n : ℕ) → size_of c ≡ 4 * n → Fits c t → (s : ℕ) → s < t.fields * per_field c t → s / per_field c t < t.fields
some-field c t n words fits s inside =
    let some_slots : 0 < per_field c t = positive (per_field c t) (omega arith) in
    (div-lt_iff_lt-mul some_slots).1 inside
  where
    positive : (p : ℕ) → 0 < t.fields * p → 0 < p
    positive zero h = absurd (omega arith)
    positive (suc p) h = omega arith
