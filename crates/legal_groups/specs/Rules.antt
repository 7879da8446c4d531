-- What legality says of the operands of an instruction of any class: where each lies, which share no register, and what else is
-- asked of the class.
use Rattle.std.specs.Prelude.{◌≡◌, ℕ, ◌+◌, ◌%◌, ◌<◌, ◌≤◌, true, false, ◌⊎◌, IsTrue}
use Rattle.std.specs.Option.{option_map_or}
use Rattle.rvv_decode.specs.declared.instruction.VInstr.{VInstr}
use Rattle.rvv_decode.specs.declared.instruction.Form.TheVariants.{V}
use Rattle.vtype_cfg.specs.declared.vtype.Vtype.{Vtype}
use Rattle.vtype_cfg.specs.Settings.{is_vill_or_supported}
use Rattle.vtype_cfg.specs.Groups.{group_registers}
use Rattle.vtype_cfg.specs.Classes.{Class, Place, nowhere, class_of, row_of, operand_at, width_at, count_at, overlap_of, may_write_mask, starts_at_zero, needs_no_setting}
use Rattle.vtype_cfg.specs.Legality.{is_legal}
use Rattle.legal_groups.specs.Facts.{IsElementWidth}

-- the registers of which the first one is a multiple: those of one group, or one where there is none
abbrev pub aligned_to : Vtype → Place → ℕ
aligned_to vt place = option_map_or group_registers (operand_at vt 0 place) 1

-- The operand in a place, whose first register this is, lies as it must: its elements are no wider than 32 bits, and its registers
-- are few, end with v31 at the latest and begin at a multiple of their group.
pub record Lies (vt : Vtype) (place : Place) (first : ℕ) : Type 0 where
  pub wide : width_at vt place ≤ 32
  pub few : count_at vt place ≤ 8
  pub room : 0 < count_at vt place → first + count_at vt place ≤ 32
  pub aligned : first % aligned_to vt place ≡ 0

-- the operands in two places, where both are there, share no register
abbrev pub AreApart : Vtype → (a b : Place) → (first second : ℕ) → Type 0
AreApart vt a b first second =
    0 < count_at vt a → 0 < count_at vt b → (first + count_at vt a ≤ second) ⊎ (second + count_at vt b ≤ first)

-- What holds of a legal instruction of a class. vs1 names a register in vector forms alone.
pub record Obeys (class : Class) (i : VInstr) (vt : Vtype) (vstart : ℕ) : Type 0 where
  pub setting : needs_no_setting class ≡ false → (vt.vill ≡ false) × IsElementWidth vt.sew
  pub start : starts_at_zero class ≡ true → vstart ≡ 0
  pub vd : Lies vt (row_of class vt.sew i).vd i.vd
  pub vs2 : Lies vt (row_of class vt.sew i).vs2 i.vs2
  pub vs1 : i.form ≡ V → Lies vt (row_of class vt.sew i).vs1 i.vs1
  pub spares_mask : may_write_mask class ≡ false → i.vm ≡ false → 0 < count_at vt (row_of class vt.sew i).vd → 0 < i.vd
  pub beside_vs2 : overlap_of class i ≡ nowhere → AreApart vt (row_of class vt.sew i).vd (row_of class vt.sew i).vs2 i.vd i.vs2
  pub beside_vs1 : overlap_of class i ≡ nowhere → i.form ≡ V → AreApart vt (row_of class vt.sew i).vd (row_of class vt.sew i).vs1 i.vd i.vs1

-- every class
abbrev pub LegalLaw : Type 0
LegalLaw =
    (class : Class) (i : VInstr) (vt : Vtype) (vstart : ℕ)
    → IsTrue (is_vill_or_supported vt) → is_legal i vt vstart ≡ true → class_of i.op ≡ class → Obeys class i vt vstart
