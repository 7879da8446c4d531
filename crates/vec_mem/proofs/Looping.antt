-- The loop of a load, as the code says it.
use Rattle.std.proofs.Common.{◌≡◌, ℕ, zero, suc, ◌+◌, ◌-◌, ◌*◌, ◌<◌, ◌≤◌, Bool, true, false, cond, ◌&&◌, ◌||◌, List, Option, Some, None, is_some, ltb, refl, sym, ◌∙◌, ap, arith, ⊎_elim}
use Rattle.std.proofs.lemmas.Bool.{cases_lt, and_parts, ltb-true}
use Rattle.guest_mem.specs.Pages.{Pages}
use Rattle.bit_rows.specs.Slices.{Slices}
use Rattle.cam_chain.specs.Views.{registers_of}
use Rattle.element_ops.specs.Elements.{AreRegisters}
use Rattle.vtype_cfg.specs.declared.configuration.Cfg.{Cfg}
use Rattle.rvv_meaning.specs.Elementwise.{size_of, is_ones}
use Rattle.rvv_meaning.specs.declared.accesses.Access.{Access}
use Rattle.rvv_meaning.specs.LoadsAndStores.{per_field, address, is_unmasked, bad, stop, loaded_by, slots_below, registers_loaded}
use Rattle.vec_mem.specs.Steps.{all_written, ones_of, element_loaded, tail_filled, fills_tail, bad_if_moved, Fits, FitsLoad}
use Rattle.cam_chain.proofs.Registers.{are-registers_of}
use Rattle.vec_mem.proofs.Loading.{element-step, tail-step, tail-stays, nothing-below, stop_from, stop-step}
use Rattle.vec_mem.proofs.Staying.{unmasked-stays, address-stays}

-- the registers that a load has come to
abbrev pub come_to : Cfg → Access → (base : ℕ) → List (List ℕ) → Pages → ℕ → List (List ℕ)
come_to c t base v pages e = loaded_by c t base v pages (λ s. is_ones c.policy) (slots_below c t base v pages e)

registers-are : (c : Cfg) (s : Slices) → size_of c ≡ 4 * s.columns → AreRegisters (size_of c) (registers_of s)
registers-are c s words = rw words (are-registers_of s)

module _ (c : Cfg) (t : Access) (s : Slices) (vlen : c.vlen ≡ 32 * s.columns) (some : 1 ≤ s.columns) (fits : Fits c t) (base : ℕ) (pages : Pages) where
  abbrev v : List (List ℕ)
  v = registers_of s

  abbrev policy : Bool
  policy = is_ones c.policy

  words : size_of c ≡ 4 * s.columns
  words = omega arith

  are : AreRegisters (size_of c) v
  are = registers-are c s words

  pub come-start : v ≡ come_to c t base v pages c.vstart
  come-start = sym (nothing-below c t s.columns words fits base v pages policy are c.vstart (omega arith) (omega (arith, words)))

  module _ (load : FitsLoad c t) where
    same-mask : (u : List (List ℕ)) (e : ℕ) → u ≡ come_to c t base v pages e → e < t.len → is_unmasked c t base u e ≡ is_unmasked c t base v e
    same-mask u e come inside = rw come (unmasked-stays c t s.columns words fits load base v pages policy are (omega arith) e e inside)

    same-address : (u : List (List ℕ)) (e : ℕ) → u ≡ come_to c t base v pages e → e < t.len → address c t base u e ≡ address c t base v e
    same-address u e come inside = rw come (address-stays c t s.columns words fits load base v pages policy are (omega arith) e e (omega arith) inside)

    pub come-step : (u w : List (List ℕ)) (e : ℕ) → u ≡ come_to c t base v pages e → c.vstart ≤ e → e < t.len → w ≡ element_loaded c t base pages u e → w ≡ come_to c t base v pages (e + 1)
    come-step u w e come from inside moved =
        moved ∙ element-step c t s.columns words fits base v pages policy are u e come from inside refl (same-mask u e come inside) (same-address u e come inside)

    same-bad : (u : List (List ℕ)) (e : ℕ) (need : ℕ) → u ≡ come_to c t base v pages e → e < t.len → bad_if_moved c t base u need pages e ≡ bad_if_moved c t base v need pages e
    unfolding bad
    same-bad u e need come inside = rw (same-mask u e come inside, same-address u e come inside) refl

    pub stop-goes-on : (u : List (List ℕ)) (e : ℕ) (need : ℕ) → u ≡ come_to c t base v pages e → e < t.len → None ≡ bad_if_moved c t base u need pages e
        → stop_from c t base v need pages e ≡ stop_from c t base v need pages (e + 1)
    stop-goes-on u e need come inside fine =
        stop-step c t base v need pages e inside ∙ on (is_unmasked c t base v e) (bad c t base v need pages e) (fine ∙ same-bad u e need come inside)
      where
        on : (m : Bool) (b : Option ℕ) → None ≡ cond m b None → cond (m && is_some b) (Some e) (stop_from c t base v need pages (e + 1)) ≡ stop_from c t base v need pages (e + 1)
        on false b h = refl
        on true None h = refl
        on true (Some a) h = cc

    pub stop-found : (u : List (List ℕ)) (e a : ℕ) (need : ℕ) → u ≡ come_to c t base v pages e → e < t.len → Some a ≡ bad_if_moved c t base u need pages e
        → (stop_from c t base v need pages e ≡ Some e) × (bad c t base v need pages e ≡ Some a)
    stop-found u e a need come inside found =
        let h = found ∙ same-bad u e need come inside in
        (stop-step c t base v need pages e inside ∙ at (is_unmasked c t base v e) (bad c t base v need pages e) h, is (is_unmasked c t base v e) (bad c t base v need pages e) h)
      where
        at : (m : Bool) (b : Option ℕ) → Some a ≡ cond m b None → cond (m && is_some b) (Some e) (stop_from c t base v need pages (e + 1)) ≡ Some e
        at false b h = cc
        at true None h = cc
        at true (Some x) h = refl

        is : (m : Bool) (b : Option ℕ) → Some a ≡ cond m b None → b ≡ Some a
        is false b h = cc
        is true b h = sym h

  -- it ends at a stop
  pub stopped-at : (u : List (List ℕ)) (e : ℕ) → u ≡ come_to c t base v pages e → stop c t base v 4 pages ≡ Some e → u ≡ registers_loaded c t base v pages (λ s. is_ones c.policy)
  unfolding registers_loaded
  stopped-at u e come at = come ∙ rw at refl

  -- or it comes to the tail, which is filled or not
  pub tail-more : (u : List (List ℕ)) (k : ℕ) → u ≡ come_to c t base v pages t.len → c.vstart < t.len → t.len + k ≤ per_field c t → policy ≡ true → (t.agnostic_tail || c.vtype.vta) ≡ true
      → tail_filled c t u t.len k ≡ come_to c t base v pages (t.len + k)
  unfolding tail_filled
  tail-more u zero come first room ones free = let e : t.len + 0 ≡ t.len = omega arith in rw e come
  tail-more u (suc k) come first room ones free =
      let e : t.len + suc k ≡ t.len + k + 1 = omega arith in
      rw e (tail-step c t s.columns words fits base v pages policy are (tail_filled c t u t.len k) (t.len + k) (tail-more u k come first (omega arith) ones free) first (omega arith) (omega arith) ones free)

  pub tail-done : (u w : List (List ℕ)) → u ≡ come_to c t base v pages t.len → c.vstart < t.len → policy ≡ true → (t.agnostic_tail || c.vtype.vta) ≡ true → w ≡ tail_filled c t u t.len (per_field c t - t.len)
      → stop c t base v 4 pages ≡ None → w ≡ registers_loaded c t base v pages (λ s. is_ones c.policy)
  unfolding registers_loaded
  tail-done u w come first ones free filled none =
      let e : t.len + (per_field c t - t.len) ≡ per_field c t = omega (arith, fits.len) in
      filled ∙ tail-more u (per_field c t - t.len) come first (omega (arith, fits.len)) ones free ∙ rw (none, e) refl

  pub tail-left : (u : List (List ℕ)) (e : ℕ) → u ≡ come_to c t base v pages e → t.len ≤ e → fills_tail c t ≡ false → stop c t base v 4 pages ≡ None → u ≡ registers_loaded c t base v pages (λ s. is_ones c.policy)
  unfolding registers_loaded
  tail-left u e come past kept none =
      ⊎_elim
      (λ (inside : e < per_field c t). come ∙ tail-stays c t s.columns words fits base v pages policy are e (per_field c t) past (omega arith) kept ∙ rw none refl)
      (λ (out : per_field c t ≤ e). come ∙ sym (tail-stays c t s.columns words fits base v pages policy are (per_field c t) e fits.len out kept) ∙ rw none refl)
      (cases_lt e (per_field c t))

  -- what the test of the tail says
  pub tail-filled : fills_tail c t ≡ true → (policy ≡ true) × (c.vstart < t.len) × ((t.agnostic_tail || c.vtype.vta) ≡ true)
  tail-filled is =
      let a = and_parts policy (ltb c.vstart t.len && (t.agnostic_tail || c.vtype.vta)) is in
      let b = and_parts (ltb c.vstart t.len) (t.agnostic_tail || c.vtype.vta) a.1 in
      (a.0, ltb-true c.vstart t.len b.0, b.1)

  pub tail-all : (u w : List (List ℕ)) (e : ℕ) → u ≡ come_to c t base v pages e → (c.vstart ≤ t.len → e ≤ t.len) → t.len ≤ e → fills_tail c t ≡ true → w ≡ tail_filled c t u t.len (per_field c t - t.len)
      → stop c t base v 4 pages ≡ None → w ≡ registers_loaded c t base v pages (λ s. is_ones c.policy)
  tail-all u w e come order past is filled none =
      let f = tail-filled is in
      let first : c.vstart < t.len = f.1 in
      let same : e ≡ t.len = omega (arith, order (omega arith)) in
      tail-done u w (rw same at come) first f.0 f.2 filled none

-- one element more of the tail
pub filled-more : (c : Cfg) (t : Access) (u w x : List (List ℕ)) (e : ℕ) → t.len ≤ e → w ≡ tail_filled c t u t.len (e - t.len) → x ≡ all_written c t w e (ones_of t.width) → x ≡ tail_filled c t u t.len (e + 1 - t.len)
unfolding tail_filled
filled-more c t u w x e past before now =
    let k : e + 1 - t.len ≡ suc (e - t.len) = omega arith in
    let at : t.len + (e - t.len) ≡ e = omega arith in
    rw (k, at) (now ∙ ap (λ (z : List (List ℕ)). all_written c t z e (ones_of t.width)) before)

pub filled-none : (c : Cfg) (t : Access) (u : List (List ℕ)) (n : ℕ) → n ≡ 0 → u ≡ tail_filled c t u t.len n
unfolding tail_filled
filled-none c t u n none = rw none refl
