-- Where no element is agnostic, the registers after an instruction are the same under both policies.
use Rattle.std.proofs.Common.{◌≡◌, ℕ, ◌*◌, ◌/◌, ◌<◌, ◌≤◌, Bool, true, false, cond, ◌&&◌, ◌||◌, ltb, List, refl, ap, subst, arith}
use Rattle.std.proofs.lemmas.Bool.{lt-ltb}
use Rattle.bit_laws.specs.Numbers.{low}
use Rattle.bit_rows.specs.Slices.{Slices}
use Rattle.cam_chain.specs.Views.{registers_of}
use Rattle.element_ops.specs.Elements.{AreRegisters}
use Rattle.element_ops.specs.Places.{prestart, active}
use Rattle.element_ops.proofs.Groups.{elements-same}
use Rattle.frame_laws.proofs.Bytes.{are-registers_of}
use Rattle.vtype_cfg.specs.declared.configuration.Cfg.{Cfg}
use Rattle.rvv_meaning.specs.Elementwise.{Elementwise, size_of, is_ones, makes_mask, element_at_place, element_after, registers_by, registers_after}
use Rattle.move_exec.proofs.Wholes.{kept}

-- an element that is computed, or stays
steady : (c : Cfg) (e : Elementwise) (v : List (List ℕ)) (k : ℕ) (ones before : Bool) → element_at_place (kept c) e v false (cond before prestart active) k ≡ element_at_place c e v ones (cond before prestart active) k
steady c e v k true true = refl
steady c e v k false true = refl
steady c e v k ones false = refl

module _ (c : Cfg) (e : Elementwise) (s : Slices) where
  abbrev v : List (List ℕ)
  v = registers_of s

  same-element : (k : ℕ) → e.masked ≡ false → k < e.len → element_after (kept c) e v false k ≡ element_after c e v (is_ones c.policy) k
  unfolding element_after
  same-element k unmasked below = rw (unmasked, lt-ltb k e.len below) (steady c e v k (is_ones c.policy) (ltb k c.vstart || (ltb k e.from && true)))

  pub kept-registers : makes_mask e ≡ false → c.vlen ≡ 32 * s.columns → 8 * (e.width / 8) ≡ e.width → 0 < e.width → e.registers * size_of c ≤ e.len * (e.width / 8) → e.masked ≡ false
      → registers_after (kept c) e v ≡ registers_after c e v
  unfolding registers_by
  kept-registers group long whole some all unmasked =
      let size : 4 * s.columns ≡ size_of c = omega arith in
      let are : AreRegisters (size_of c) v = subst (λ n. AreRegisters n v) size (are-registers_of s) in
      rw group (
      elements-same (size_of c) v e.vd e.registers e.width e.len (λ k. element_after (kept c) e v false k) (λ k. element_after c e v (is_ones c.policy) k) are whole some all
      (λ k below. ap (low e.width) (same-element k unmasked below)))
