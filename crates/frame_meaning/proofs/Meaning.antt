-- The registers of the frame are those of the meaning.
use Rattle.std.proofs.Common.{◌≡◌, ℕ, ◌/◌, Bool, true, false, cond, ◌&&◌, ◌||◌, eqb, ltb, List, refl, sym, ◌∙◌, ap}
use Rattle.std.specs.Int.{from_bool}
use Rattle.element_ops.specs.Elements.{Registers, element_of, mask_bit_of, with_elements, with_mask}
use Rattle.element_ops.specs.Places.{Place, prestart, active, masked_off, tail, agnostic_value}
use Rattle.vtype_cfg.specs.declared.configuration.Cfg.{Cfg}
use Rattle.rvv_meaning.specs.Elementwise.{Elementwise, makes_mask, is_ones, place, old_element, element_at_place, element_after, registers_by, registers_after}
use Rattle.frame_laws.specs.Meaning.{outcome}
use Rattle.frame_laws.specs.Bytes.{element_of_after, bit_of_after, mask_after}
use Rattle.frame_laws.specs.Bytes as frame
use Rattle.frame_meaning.specs.Shapes.{shape_of}
use Rattle.frame_meaning.specs.Laws.{MeaningLaw, MaskMeaningLaw}

module _ (c : Cfg) (i : Elementwise) (reads splat : Bool) (x w : ℕ) (result : Registers → ℕ → Bool → ℕ) (v : List (List ℕ)) where
  stays : (ones : Bool) (width old : ℕ) → old ≡ agnostic_value (ones && false) width old
  stays true width old = refl
  stays false width old = refl

  -- what becomes of an element at a place
  at_place : (e old : ℕ) (p : Place) → old ≡ old_element c i v e
      → outcome (shape_of c i reads splat x w result) (i.value v e) old p ≡ element_at_place c i v (is_ones c.policy) p e
  at_place e old prestart same = same ∙ stays (is_ones c.policy) i.width (old_element c i v e)
  at_place e old active same = refl
  at_place e old masked_off same = ap (λ (z : ℕ). agnostic_value (is_ones c.policy && c.vtype.vma) i.width z) same
  at_place e old tail same = ap (λ (z : ℕ). agnostic_value (is_ones c.policy && (ltb c.vstart i.vl && (makes_mask i || c.vtype.vta))) i.width z) same

  -- what stands in an element before
  old_number : (e : ℕ) → makes_mask i ≡ false → element_of (c.vlen / 8) v i.vd i.width e ≡ old_element c i v e
  old_number e not_mask = sym (ap (λ (b : Bool). cond b (from_bool (mask_bit_of v i.vd e)) (element_of (c.vlen / 8) v i.vd i.width e)) not_mask)

  old_bit : (e : ℕ) → makes_mask i ≡ true → from_bool (mask_bit_of v i.vd e) ≡ old_element c i v e
  old_bit e is_mask = sym (ap (λ (b : Bool). cond b (from_bool (mask_bit_of v i.vd e)) (element_of (c.vlen / 8) v i.vd i.width e)) is_mask)

  -- what an element becomes
  number_after : (e : ℕ) → makes_mask i ≡ false → element_of_after (shape_of c i reads splat x w result) (i.value v) v e ≡ element_after c i v (is_ones c.policy) e
  unfolding element_of_after element_after
  number_after e not_mask = at_place e (element_of (c.vlen / 8) v i.vd i.width e) (place c i v e) (old_number e not_mask)

  bit_after : (e : ℕ) → makes_mask i ≡ true → bit_of_after (shape_of c i reads splat x w result) (i.value v) v e ≡ element_after c i v (is_ones c.policy) e
  unfolding bit_of_after element_after
  bit_after e is_mask = at_place e (from_bool (mask_bit_of v i.vd e)) (place c i v e) (old_bit e is_mask)

  elements : ℕ → ℕ
  elements e = element_after c i v (is_ones c.policy) e

  -- the registers
  chosen : (b : Bool) → makes_mask i ≡ b
      → registers_after c i v ≡ cond b (with_mask v i.vd (λ e. eqb (elements e) 1)) (with_elements (c.vlen / 8) v i.vd i.registers i.width elements)
  unfolding registers_by elements
  chosen b is = ap (λ (b : Bool). cond b (with_mask v i.vd (λ e. eqb (elements e) 1)) (with_elements (c.vlen / 8) v i.vd i.registers i.width elements)) is

  pub of_elements : makes_mask i ≡ false → frame.registers_after (shape_of c i reads splat x w result) (i.value v) v ≡ registers_after c i v
  unfolding elements
  of_elements not_mask =
      ap (λ (f : ℕ → ℕ). with_elements (c.vlen / 8) v i.vd i.registers i.width f) (λ n e. number_after e not_mask n) ∙ sym (chosen false not_mask)

  pub of_bits : makes_mask i ≡ true → mask_after (shape_of c i reads splat x w result) (i.value v) v ≡ registers_after c i v
  unfolding elements
  of_bits is_mask =
      ap (λ (f : ℕ → ℕ). with_mask v i.vd (λ e. eqb (f e) 1)) (λ n e. bit_after e is_mask n) ∙ sym (chosen true is_mask)

pub meaning_law : MeaningLaw
meaning_law c i reads splat x w result v not_mask = of_elements c i reads splat x w result v not_mask

pub mask_meaning_law : MaskMeaningLaw
mask_meaning_law c i reads splat x w result v is_mask = of_bits c i reads splat x w result v is_mask
