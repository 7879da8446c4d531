-- What stands in the registers after an instruction on elements.
use Rattle.std.proofs.Common.{◌≡◌, ℕ, ◌+◌, ◌*◌, ◌/◌, ◌<◌, ◌≤◌, Bool, true, false, cond, eqb, List}
use Rattle.bit_laws.specs.Numbers.{low}
use Rattle.element_ops.specs.Elements.{AreRegisters, element_of, bits_of, with_elements, with_elements_in, with_mask}
use Rattle.element_ops.proofs.Writing.{registers-with_elements, registers-with_mask, element-with_elements, bits-with_elements, bits-with_mask}
use Rattle.vtype_cfg.specs.declared.configuration.Cfg.{Cfg}
use Rattle.rvv_meaning.specs.Elementwise.{Elementwise, makes_mask, size_of, element_after, registers_by}

module _ (c : Cfg) (i : Elementwise) (v : List (List ℕ)) (ones : ℕ → Bool) (are : AreRegisters (size_of c) v) where
  -- they are registers still
  pub registers-after : AreRegisters (size_of c) (registers_by c i v ones)
  unfolding registers_by
  registers-after =
      elim (makes_mask i) as (λ m. AreRegisters (size_of c) (cond m (with_mask v i.vd (λ e. eqb (element_after c i v (ones e) e) 1)) (with_elements (size_of c) v i.vd i.registers i.width (λ e. element_after c i v (ones e) e)))) [
        | true ↦ registers-with_mask (size_of c) v i.vd (λ e. eqb (element_after c i v (ones e) e) 1) are
        | false ↦ registers-with_elements (size_of c) v i.vd i.registers i.width (λ e. element_after c i v (ones e) e) are
      ]

  -- an element of the destination is the one that it becomes
  pub element-after : (e : ℕ) → makes_mask i ≡ false → 0 < size_of c → i.vd + i.registers ≤ 32 → 8 * (i.width / 8) ≡ i.width → (e + 1) * (i.width / 8) ≤ i.registers * size_of c
      → element_of (size_of c) (registers_by c i v ones) i.vd i.width e ≡ low i.width (element_after c i v (ones e) e)
  unfolding registers_by
  element-after e no_mask positive room whole inside =
      rw no_mask (element-with_elements (size_of c) v i.vd i.registers i.width (λ e. element_after c i v (ones e) e) e are positive room whole inside)

  -- the registers as bits
  pub bits-after : (q at : ℕ) → makes_mask i ≡ false → 8 * (i.width / 8) ≡ i.width → 0 < i.width → q < 32 → at < 8 * size_of c
      → bits_of (registers_by c i v ones) q at ≡ with_elements_in (8 * size_of c) (bits_of v) i.vd i.registers i.width (λ e. element_after c i v (ones e) e) q at
  unfolding registers_by
  bits-after q at no_mask whole wide inside within =
      rw no_mask (bits-with_elements (size_of c) v i.vd i.registers i.width (λ e. element_after c i v (ones e) e) q at are whole wide inside within)

  -- the registers as bits, where the result is a mask
  pub mask-after : (q at : ℕ) → makes_mask i ≡ true → q < 32 → at < 8 * size_of c
      → bits_of (registers_by c i v ones) q at ≡ cond (eqb q i.vd) (eqb (element_after c i v (ones at) at) 1) (bits_of v q at)
  unfolding registers_by
  mask-after q at mask inside within =
      rw mask (bits-with_mask (size_of c) v i.vd (λ e. eqb (element_after c i v (ones e) e) 1) q at are inside within)
