-- Stores: they change no permission, and what one element more makes of the pages.
use Rattle.std.proofs.Common.{◌≡◌, ℕ, zero, suc, ◌+◌, ◌-◌, ◌*◌, ◌/◌, ◌%◌, ◌^◌, ◌<◌, ◌≤◌, Bool, true, false, cond, ◌&&◌, List, [], ◌∷◌, Option, Some, None, is_some, ltb, refl, sym, ◌∙◌, arith, ⊎_elim}
use Rattle.std.specs.List.{filter, fold, range_with_len}
use Rattle.std.proofs.lemmas.Bool.{cases_Bool, lt-ltb, le-ltb}
use Rattle.std.proofs.Math.Nat.{mod-lt, mul-le-mul_right, div-lt_iff_lt-mul}
use Rattle.guest_mem.specs.Pages.{Pages, Memory, written}
use Rattle.guest_mem.specs.Mapping.{SamePerms}
use Rattle.guest_mem.proofs.Mapping.{bad-by-perms, same-written}
use Rattle.guest_mem.proofs.Writing.{written-none, written-append}
use Rattle.bit_laws.specs.Lists.{tabulate}
use Rattle.bit_laws.proofs.Lists.{length-tabulate}
use Rattle.element_ops.specs.Elements.{element_of, group_byte}
use Rattle.vtype_cfg.specs.declared.configuration.Cfg.{Cfg}
use Rattle.rvv_meaning.specs.declared.accesses.Access.{Access}
use Rattle.rvv_meaning.specs.LoadsAndStores.{field_size, per_field, element_size, is_unmasked, address, bad, moved, stop, done_below, byte_stored, bytes_of, stored_all, pages_stored}
use Rattle.vec_mem.specs.Steps.{bad_if_moved, element_stored, Fits}
use Rattle.bit_rows.specs.Slices.{Slices}
use Rattle.cam_chain.specs.Views.{registers_of}
use Rattle.rvv_meaning.specs.Elementwise.{size_of}
use Rattle.cam_chain.proofs.Registers.{are-registers_of, some-size}
use Rattle.vec_mem.proofs.Loading.{fields-room, stop_from, stop-from-start, stop-past, stop-step}
use Rattle.vec_mem.proofs.Finding.{find-range}

module _ (c : Cfg) (t : Access) (base : ℕ) (v : List (List ℕ)) where
  pub same-bad_if : (p q : Pages) (need e : ℕ) → SamePerms p q → bad_if_moved c t base v need p e ≡ bad_if_moved c t base v need q e
  unfolding bad
  same-bad_if p q need e same = rw (bad-by-perms p q need (address c t base v e) (element_size t) same) refl

  module _ (first : Pages) where
    -- the elements from one on that are stored
    unfoldable pub left_from : ℕ → List ℕ
    left_from e = filter (λ x. ltb x (done_below c t (stop c t base v 2 first))) (filter (is_unmasked c t base v) (range_with_len e (t.len - e)))

    -- what the loop keeps: what is left to be stored leads to what the store leaves
    pub left-start : pages_stored c t base v first ≡ stored_all c t base v first (left_from c.vstart)
    unfolding pages_stored left_from moved
    left-start = refl

    left-is : (e : ℕ) → e < t.len → left_from e ≡ cond (is_unmasked c t base v e) (cond (ltb e (done_below c t (stop c t base v 2 first))) (e ∷ left_from (e + 1)) (left_from (e + 1))) (left_from (e + 1))
    unfolding left_from
    left-is e inside =
        let more : t.len - e ≡ suc (t.len - (e + 1)) = omega arith in
        rw more (by (is_unmasked c t base v e))
      where
        by : (m : Bool) → filter (λ x. ltb x (done_below c t (stop c t base v 2 first))) (cond m (e ∷ filter (is_unmasked c t base v) (range_with_len (e + 1) (t.len - (e + 1)))) (filter (is_unmasked c t base v) (range_with_len (e + 1) (t.len - (e + 1)))))
            ≡ cond m (cond (ltb e (done_below c t (stop c t base v 2 first))) (e ∷ left_from (e + 1)) (left_from (e + 1))) (left_from (e + 1))
        by true = refl
        by false = refl

    -- an element that is stored lies below the stop
    below-stop : (e : ℕ) → Fits c t → e < t.len → stop c t base v 2 first ≡ stop_from c t base v 2 first (e + 1) → e < done_below c t (stop c t base v 2 first)
    unfolding stop_from
    below-stop e fits inside goes = by (stop c t base v 2 first) goes
      where
        by : (o : Option ℕ) → o ≡ stop_from c t base v 2 first (e + 1) → e < done_below c t o
        by None is = omega (arith, fits.len)
        by (Some x) is = let h = find-range (λ y. is_some (bad c t base v 2 first y)) (is_unmasked c t base v) (e + 1) (t.len - (e + 1)) x (sym is) in omega (arith, h.0)

    -- one element more
    pub store-step : (p : Pages) (e : ℕ) → Fits c t → e < t.len → stop c t base v 2 first ≡ stop_from c t base v 2 first (e + 1) → is_unmasked c t base v e ≡ true
        → stored_all c t base v p (left_from e) ≡ stored_all c t base v (written p (address c t base v e) (bytes_of c t v e)) (left_from (e + 1))
    unfolding stored_all
    store-step p e fits inside goes there =
        rw (left-is e inside, there, lt-ltb e (done_below c t (stop c t base v 2 first)) (below-stop e fits inside goes)) refl

    pub store-skip : (p : Pages) (e : ℕ) → e < t.len → is_unmasked c t base v e ≡ false → stored_all c t base v p (left_from e) ≡ stored_all c t base v p (left_from (e + 1))
    unfolding stored_all
    store-skip p e inside off = rw (left-is e inside, off) refl

    pub store-past : (p : Pages) (e : ℕ) → t.len ≤ e → stored_all c t base v p (left_from e) ≡ p
    unfolding stored_all left_from
    store-past p e past = let none : t.len - e ≡ 0 = omega arith in rw none refl

    -- from the stop on nothing is stored
    pub store-stops : (p : Pages) (e : ℕ) → stop c t base v 2 first ≡ Some e → stored_all c t base v p (left_from e) ≡ p
    unfolding stored_all left_from
    store-stops p e at = rw at (none (is_unmasked c t base v) e (t.len - e) (omega arith))
      where
        none : (q : ℕ → Bool) (a n : ℕ) → e ≤ a → fold (λ r x. written r (address c t base v x) (bytes_of c t v x)) p (filter (λ x. ltb x e) (filter q (range_with_len a n))) ≡ p
        none q a zero past = refl
        none q a (suc n) past = by (q a) (none q (a + 1) n (omega arith))
          where
            by : (m : Bool) → fold (λ r x. written r (address c t base v x) (bytes_of c t v x)) p (filter (λ x. ltb x e) (filter q (range_with_len (a + 1) n))) ≡ p
                → fold (λ r x. written r (address c t base v x) (bytes_of c t v x)) p (filter (λ x. ltb x e) (cond m (a ∷ filter q (range_with_len (a + 1) n)) (filter q (range_with_len (a + 1) n)))) ≡ p
            by true ih = rw (le-ltb a e past) ih
            by false ih = ih

-- ---- as the code says it

pub one-byte : (size : ℕ) (v : List (List ℕ)) (r p : ℕ) → element_of size v r (8 * 1) p ≡ group_byte size v r p
unfolding element_of
one-byte size v r p = let e : p * 1 + 0 ≡ p = omega arith in rw e (omega arith)

-- the place of a byte lies in the registers of all fields
pub byte-room : (fields per size room k e : ℕ) → fields * per * size ≤ room → k < fields * size → e < per → 0 < size → ((k / size * per + e) * size + k % size + 1) * 1 ≤ room
byte-room fields per size room k e all inside within some =
    let field : k / size < fields = (div-lt_iff_lt-mul some).1 inside in
    let rest : k % size < size = mod-lt k some in
    let more : suc (k / size) * per ≤ fields * per = mul-le-mul_right per field in
    let less : k / size * per + e + 1 ≤ fields * per = omega arith in
    let scaled : (k / size * per + e + 1) * size ≤ fields * per * size = mul-le-mul_right size less in
    omega arith

-- bytes written one after the other
pub written-none' : (c : Cfg) (t : Access) (v : List (List ℕ)) (e a : ℕ) (pages : Pages) → pages ≡ written pages a (tabulate 0 (byte_stored c t v e))
unfolding tabulate
written-none' c t v e a pages = sym (written-none pages a)

pub written-more' : (c : Cfg) (t : Access) (v : List (List ℕ)) (e k a b : ℕ) (first now last : Pages) → a < 2 ^ 32 → now ≡ written first a (tabulate k (byte_stored c t v e)) → b ≡ byte_stored c t v e k
    → last ≡ written now ((a + k) % 2 ^ 32) (b ∷ []) → last ≡ written first a (tabulate (k + 1) (byte_stored c t v e))
unfolding tabulate
written-more' c t v e k a b first now last fits before byte put_it =
    let more : k + 1 ≡ suc k = omega arith in
    rw more (put_it ∙ rw (before, byte) (sym (rw (length-tabulate k (byte_stored c t v e)) at (written-append first a (tabulate k (byte_stored c t v e)) (byte_stored c t v e k ∷ []) fits))))

pub written-bytes : (c : Cfg) (t : Access) (v : List (List ℕ)) (e k a : ℕ) (first : Pages) → k ≡ element_size t → written first a (tabulate k (byte_stored c t v e)) ≡ written first a (bytes_of c t v e)
unfolding bytes_of
written-bytes c t v e k a first all = rw all refl

module _ (c : Cfg) (t : Access) (base : ℕ) (v : List (List ℕ)) (p : Pages) (e : ℕ) where
  pub stored-moved : is_unmasked c t base v e ≡ true → (a : ℕ) → a ≡ address c t base v e → written p a (bytes_of c t v e) ≡ element_stored c t base v p e
  unfolding element_stored
  stored-moved there a at = rw (there, at) refl

  pub stored-kept : is_unmasked c t base v e ≡ false → p ≡ element_stored c t base v p e
  unfolding element_stored
  stored-kept off = rw off refl

-- the loop of a store
module _ (c : Cfg) (t : Access) (fits : Fits c t) (base : ℕ) (v : List (List ℕ)) (first : Pages) where
  -- what it keeps
  pub record Stores (now : Pages) (e : ℕ) : Type 0 where
    pub leads : pages_stored c t base v first ≡ stored_all c t base v now (left_from c t base v first e)
    pub stops : stop c t base v 2 first ≡ stop_from c t base v 2 first e
    pub perms : SamePerms now first

  pub stores-start : Stores first c.vstart
  stores-start = record { leads = left-start c t base v first; stops = stop-from-start c t base v 2 first; perms = λ x. refl }

  pub stores-step : (now : Pages) (e : ℕ) → Stores now e → e < t.len → None ≡ bad_if_moved c t base v 2 now e → Stores (element_stored c t base v now e) (e + 1)
  unfolding element_stored
  stores-step now e s inside fine =
      let fine_first = fine ∙ same-bad_if c t base v now first 2 e s.perms in
      let goes : stop c t base v 2 first ≡ stop_from c t base v 2 first (e + 1) = s.stops ∙ stop-step c t base v 2 first e inside ∙ on (is_unmasked c t base v e) (bad c t base v 2 first e) fine_first in
      ⊎_elim
      (λ (there : is_unmasked c t base v e ≡ true).
      rw there record { leads = s.leads ∙ store-step c t base v first now e fits inside goes there; stops = goes; perms = same-written now first (address c t base v e) (bytes_of c t v e) s.perms })
      (λ (off : is_unmasked c t base v e ≡ false).
      rw off record { leads = s.leads ∙ store-skip c t base v first now e inside off; stops = goes; perms = s.perms })
      (cases_Bool (is_unmasked c t base v e))
    where
      on : (m : Bool) (b : Option ℕ) → None ≡ cond m b None → cond (m && is_some b) (Some e) (stop_from c t base v 2 first (e + 1)) ≡ stop_from c t base v 2 first (e + 1)
      on false b h = refl
      on true None h = refl
      on true (Some a) h = cc

  pub stores-found : (now : Pages) (e a : ℕ) → Stores now e → e < t.len → Some a ≡ bad_if_moved c t base v 2 now e
      → (stop c t base v 2 first ≡ Some e) × (bad c t base v 2 first e ≡ Some a)
  stores-found now e a s inside found =
      let h = found ∙ same-bad_if c t base v now first 2 e s.perms in
      (s.stops ∙ stop-step c t base v 2 first e inside ∙ found_at (is_unmasked c t base v e) (bad c t base v 2 first e) h, is (is_unmasked c t base v e) (bad c t base v 2 first e) h)
    where
      found_at : (m : Bool) (b : Option ℕ) → Some a ≡ cond m b None → cond (m && is_some b) (Some e) (stop_from c t base v 2 first (e + 1)) ≡ Some e
      found_at false b h = cc
      found_at true None h = cc
      found_at true (Some x) h = refl

      is : (m : Bool) (b : Option ℕ) → Some a ≡ cond m b None → b ≡ Some a
      is false b h = cc
      is true b h = sym h

  pub stores-stopped : (now : Pages) (e : ℕ) → Stores now e → stop c t base v 2 first ≡ Some e → now ≡ pages_stored c t base v first
  stores-stopped now e s at = sym (s.leads ∙ store-stops c t base v first now e at)

  pub stores-done : (now : Pages) (e : ℕ) → Stores now e → t.len ≤ e → (now ≡ pages_stored c t base v first) × (None ≡ stop c t base v 2 first)
  stores-done now e s past = (sym (s.leads ∙ store-past c t base v first now e past), sym (s.stops ∙ stop-past c t base v 2 first e past))

-- a memory with other pages
pub same-memory : (m o : Memory) (p : Pages) → m.pages ≡ p → m.heap ≡ o.heap → m.heap_end ≡ o.heap_end → m.brk ≡ o.brk → m ≡ record o { pages = p }
same-memory m o p a b d e = rw (← a, ← b, ← d, ← e) refl

-- where the code finds a byte
pub byte-fits : (c : Cfg) (t : Access) (n size per k e : ℕ) → c.vlen ≡ 32 * n → Fits c t → size ≡ field_size t → per ≡ per_field c t → k < element_size t → e < t.len
    → (((k / size * per + e) * size + k % size + 1) * 1 ≤ (32 - t.register) * (4 * n)) × ((k / size * per + e) * size + k % size < 2 ^ 20) × (k / size * per + e < 2 ^ 20)
byte-fits c t n size per k e vlen fits is_size is_per inside within =
    let some : 0 < size = rw is_size (some-size (field_size t) fits.size) in
    let lies : k < t.fields * size = rw is_size inside in
    let room = (fields-room c t n size per vlen fits is_size is_per).0 in
    let there = byte-room t.fields per size ((32 - t.register) * (4 * n)) k e room lies (omega (arith, fits.len)) some in
    let columns : n ≤ 2048 = omega (arith, fits.vlen) in
    let most : (32 - t.register) * (4 * n) ≤ 32 * (4 * n) = mul-le-mul_right (4 * n) (omega arith) in
    let least : 1 * (k / size * per + e) ≤ size * (k / size * per + e) = mul-le-mul_right (k / size * per + e) some in
    (there, omega arith, omega arith)

pub byte-told : (c : Cfg) (t : Access) (n size per k e x : ℕ) (v : List (List ℕ)) → c.vlen ≡ 32 * n → size ≡ field_size t → per ≡ per_field c t
    → x ≡ element_of (4 * n) v t.register (8 * 1) ((k / size * per + e) * size + k % size) → x ≡ byte_stored c t v e k
byte-told c t n size per k e x v vlen is_size is_per read =
    let words : 4 * n ≡ size_of c = omega arith in
    read ∙ one-byte (4 * n) v t.register ((k / size * per + e) * size + k % size) ∙ rw (words, is_size, is_per) refl

pub byte-small : (s : Slices) (r p x : ℕ) → x ≡ element_of (4 * s.columns) (registers_of s) r (8 * 1) p → x < 2 ^ 8
byte-small s r p x read = rw (read, one-byte (4 * s.columns) (registers_of s) r p) ((are-registers_of s).bytes (r + p / (4 * s.columns)) (p % (4 * s.columns)))
