-- What an instruction that writes elements leaves in the vector registers (vector extension 1.0, sections 3.4.3 and 5.3 to
-- 5.4). It is said once for all such instructions: each says which elements it writes, and the value of each.
use Rattle.std.specs.Prelude.{ℕ, zero, suc, ◌/◌, Bool, true, false, cond, ◌&&◌, ◌||◌, eqb, List}
use Rattle.std.specs.Int.{from_bool}
use lib.Dec.{ltb}
use Rattle.bit_laws.specs.Numbers.{low}
use Rattle.element_ops.specs.Elements.{element_of, mask_bit_of, with_elements, with_mask}
use Rattle.element_ops.specs.Places.{Place, active, place_of, agnostic_value, is_active, is_agnostic}
use Rattle.vtype_cfg.specs.Settings.{vtype_of}
use Rattle.vtype_cfg.specs.declared.configuration.Cfg.{Cfg}
use Rattle.vtype_cfg.specs.declared.configuration.Policy.{Policy}
use Rattle.vtype_cfg.specs.declared.configuration.Policy.TheVariants.{Keep, Ones}
use Rattle.rvv_meaning.specs.declared.Csrs.{Csrs}

-- the configuration that the control registers hold
abbrev pub cfg_of : Csrs → Policy → Cfg
cfg_of csrs policy = record { vtype = vtype_of csrs.vtype; vl = csrs.vl; vstart = csrs.vstart; vxrm = csrs.vxrm; vlen = csrs.vlen; policy = policy }

-- An instruction that writes elements of the group of registers from vd on. The width of an element is in bits; an element
-- of 1 bit is a bit of a mask, which takes one register. The elements run from `from` on and below `len`, usually vstart
-- and vl. `vl` is vl, or the instruction's own length in its place. `masked` says that elements may be masked off. The
-- value of element e, and whether it was clipped, are computed from the registers as they were before the instruction.
pub record Elementwise : Type 0 where
  pub vd : ℕ
  pub registers : ℕ
  pub width : ℕ
  pub from : ℕ
  pub len : ℕ
  pub vl : ℕ
  pub masked : Bool
  pub value : (v : List (List ℕ)) (e : ℕ) → ℕ
  pub clipped : (v : List (List ℕ)) (e : ℕ) → Bool

-- the result is a mask
abbrev pub makes_mask : Elementwise → Bool
makes_mask i = eqb i.width 1

-- how many bytes a register has
abbrev pub size_of : Cfg → ℕ
size_of c = c.vlen / 8

-- the policy leaves all ones in agnostic elements
abbrev pub is_ones : Policy → Bool
is_ones Keep = false
is_ones Ones = true

-- an instruction on a configuration and the registers that it finds
module _ (c : Cfg) (i : Elementwise) (v : List (List ℕ)) where
  -- how an element of the destination stands to the instruction
  abbrev pub place : ℕ → Place
  place e = place_of c.vstart i.from i.len i.masked (mask_bit_of v 0) e

  -- The elements of the tail are agnostic where vta is set, or where the result is a mask, but none of them is where vstart
  -- is not below vl.
  abbrev pub has_agnostic_tail : Bool
  has_agnostic_tail = ltb c.vstart i.vl && (makes_mask i || c.vtype.vta)

  -- whether an element in such a place is agnostic: one that is masked off is where vma is set
  abbrev pub is_agnostic_at : Place → Bool
  is_agnostic_at p = is_agnostic c.vtype.vma has_agnostic_tail p

  -- an element of the destination before the instruction
  abbrev pub old_element : ℕ → ℕ
  old_element e = cond (makes_mask i) (from_bool (mask_bit_of v i.vd e)) (element_of (size_of c) v i.vd i.width e)

  -- what becomes of an element: it is computed, or it is agnostic, or it stays
  abbrev pub element_at_place : (ones : Bool) → Place → ℕ → ℕ
  element_at_place ones active e = low i.width (i.value v e)
  element_at_place ones p e = agnostic_value (ones && is_agnostic_at p) i.width (old_element e)

  unfoldable pub element_after : (ones : Bool) → ℕ → ℕ
  element_after ones e = element_at_place ones (place e) e

  -- the registers after the instruction, where `ones` says which of the agnostic elements become all ones
  unfoldable pub registers_by : (ones : ℕ → Bool) → List (List ℕ)
  registers_by ones =
      cond (makes_mask i)
      (with_mask v i.vd (λ e. eqb (element_after (ones e) e) 1))
      (with_elements (size_of c) v i.vd i.registers i.width (λ e. element_after (ones e) e))

  -- the registers after the instruction under the policy of the configuration: all agnostic elements become all ones, or none
  abbrev pub registers_after : List (List ℕ)
  registers_after = registers_by (λ e. is_ones c.policy)

  -- whether an active element is clipped: one of those below n, and one at all
  unfoldable pub clips_below : (n : ℕ) → Bool
  clips_below zero = false
  clips_below (suc n) = clips_below n || (is_active (place n) && i.clipped v n)

  abbrev pub clips : Bool
  clips = clips_below i.len
