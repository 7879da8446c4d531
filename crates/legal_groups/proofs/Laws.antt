-- What the rules of legality say of every class whose destination is a group or a mask.
use Rattle.std.proofs.Common.{◌≡◌, ℕ, zero, suc, ◌+◌, ◌*◌, ◌%◌, ◌<◌, ◌≤◌, Bool, true, false, not, ◌&&◌, ◌||◌, ◌==◌, nat_le, nat_lt, IsTrue, Some, refl, arith}
use Rattle.std.proofs.lemmas.Bool.{and_parts, eqb-true, leb-true, lt-ltb, false≢true, not-true}
use Rattle.rvv_decode.specs.declared.instruction.VInstr.{VInstr}
use Rattle.rvv_decode.specs.declared.instruction.Form.{Form}
use Rattle.rvv_decode.specs.declared.instruction.Form.TheVariants.{V}
use Rattle.vtype_cfg.specs.declared.vtype.Vtype.{Vtype}
use Rattle.vtype_cfg.specs.Settings.{is_supported, is_vill_or_supported}
use Rattle.vtype_cfg.specs.Groups.{Operand, mask_at, groups_at, registers}
use Rattle.vtype_cfg.specs.Classes.{Class, plain, Place, group, row_of, class_of, operand_at, in_form, is_mask_place, needs_no_setting, may_write_mask, overlap_of}
use Rattle.vtype_cfg.specs.Legality.{has_setting, has_legal_eew, has_legal_emul, is_aligned, fits_registers, is_placed, if_there, overlaps_legally, spares_mask, is_legal}
use Rattle.legal_groups.specs.Facts.{IsElementWidth, registers_for, Group, Sources, LegalGroupLaw, LegalMaskLaw}
use Rattle.legal_groups.proofs.Widths.{at_width, is_element_width, element-width, in_force, sew-width}
use Rattle.legal_groups.proofs.Rules.{rules, in_setting}
use Rattle.legal_groups.proofs.Overlaps.{is_limited, read-beside, read-for_mask}

-- ---- places

-- the bits of an element of a legal operand, where a mask has one
abbrev is_legal_width : ℕ → Bool
is_legal_width w = (w == 1) || (nat_le 8 w && nat_le w 32)

-- the width of a group that lies as it must, and where it lies
record Placed (vt : Vtype) (w first : ℕ) : Type 0 where
  legal : is_legal_width w ≡ true
  place : Group (registers_for vt w) first

placed : (vt : Vtype) (w first : ℕ) → is_placed (groups_at vt 1 w first) ≡ true → Placed vt w first
unfolding is_placed has_legal_eew is_aligned fits_registers registers
placed vt w first is =
    let n = registers_for vt w in
    let a = and_parts _ _ is in
    let b = and_parts _ _ a.0 in
    let c = and_parts _ _ b.0 in
    let d = and_parts (nat_le (1 * n) 8) (nat_le (first + 1 * n) 32) a.1 in
    let few : 1 * n ≤ 8 = leb-true (1 * n) 8 d.0 in
    let room : first + 1 * n ≤ 32 = leb-true (first + 1 * n) 32 d.1 in
    record { legal = c.0; place = record { some = omega arith; few = omega arith; room = omega arith; aligned = eqb-true (first % n) 0 b.1 } }

mask-room : (vd : ℕ) → is_placed (mask_at vd) ≡ true → vd < 32
unfolding is_placed fits_registers registers
mask-room vd is =
    let d = mask_at vd in
    let a = and_parts (has_legal_eew d && has_legal_emul d && is_aligned d) (fits_registers d) is in
    let room : vd + 1 * 1 ≤ 32 = leb-true (vd + 1 * 1) 32 (and_parts (nat_le (1 * 1) 8) (nat_le (vd + 1 * 1) 32) a.1).1 in
    omega arith

-- a group that spares the mask is not at v0
spared : (class : Class) (vm : Bool) (vt : Vtype) (w vd : ℕ) → may_write_mask class ≡ false → spares_mask class vm (groups_at vt 1 w vd) ≡ true → vm ≡ false → 0 < vd
unfolding spares_mask registers
spared class vm vt w zero never spare masked =
    let t : nat_lt 0 (0 + 1 * registers_for vt w) ≡ true = lt-ltb 0 (0 + 1 * registers_for vt w) (omega arith) in
    absurd (false≢true (rw (masked, never, t) at spare))
spared class vm vt w (suc vd) never spare masked = omega arith

-- ---- classes

abbrev is_group : Place → Bool
is_group (group w) = true
is_group place = false

-- the elements of a group, if of a legal width, have 8, 16 or 32 bits
abbrev has_element_width : Place → Bool
has_element_width (group w) = not (is_legal_width w) || is_element_width w
has_element_width place = true

-- a class whose destination is a group or a mask
abbrev has_destination : Class → VInstr → ℕ → Bool
has_destination class i sew = is_group (row_of class sew i).vd || is_mask_place (row_of class sew i).vd

-- Such a class needs a setting and has a limit on its overlaps; and where it writes a group, it may not write the mask that it
-- reads.
abbrev is_ruled : Class → VInstr → ℕ → Bool
is_ruled class i sew =
    not (has_destination class i sew) || (not (needs_no_setting class) && is_limited (overlap_of class i) && (not (is_group (row_of class sew i).vd) || not (may_write_mask class)))

all-ruled : (class : Class) (i : VInstr) (sew : ℕ) → is_ruled class i sew ≡ true
unfolding row_of needs_no_setting may_write_mask overlap_of
all-ruled plain i sew = refl
all-ruled class i sew = refl

-- The groups of such a class have elements of such widths.
abbrev has_widths : Class → VInstr → ℕ → Bool
has_widths class i sew =
    not (has_destination class i sew)
    || (has_element_width (row_of class sew i).vd && has_element_width (row_of class sew i).vs2 && has_element_width (row_of class sew i).vs1)

all-have_widths : (class : Class) (i : VInstr) (sew : ℕ) → IsElementWidth sew → has_widths class i sew ≡ true
unfolding row_of
all-have_widths plain i sew width = at_width (λ (w : ℕ). has_widths plain i w ≡ true) refl refl refl sew width
all-have_widths class i sew width = at_width (λ (w : ℕ). has_widths class i w ≡ true) refl refl refl sew width

-- the width of such a group that lies as it must, and where it lies
lies : (vt : Vtype) (w first : ℕ) → has_element_width (group w) ≡ true → is_placed (groups_at vt 1 w first) ≡ true → IsElementWidth w × Group (registers_for vt w) first
lies vt w first fits is = let p = placed vt w first is in (element-width w (rw p.legal at fits), p.place)

-- ---- the laws

-- what the rules say of an instruction with this destination, and of its sources
pub record Obeyed (class : Class) (i : VInstr) (vt : Vtype) (o : Operand) : Type 0 where
  pub setting : has_setting class vt ≡ true
  pub place : is_placed o ≡ true
  pub spares : spares_mask class i.vm o ≡ true
  pub sources : Sources class i vt (λ s first. (is_placed (groups_at vt 1 s first) ≡ true) × (overlaps_legally (overlap_of class i) o (groups_at vt 1 s first) ≡ true))

-- what a test says of the operand in vs1, which vector forms alone have
in_vector : (test : Operand → Bool) (vt : Vtype) (first : ℕ) (form : Form) (place : Place) (s : ℕ) → form ≡ V → place ≡ group s → if_there test (operand_at vt first (in_form form place)) ≡ true → test (groups_at vt 1 s first) ≡ true
in_vector test vt first form place s is at h = rw (at, is) at h

pub obeyed : (class : Class) (i : VInstr) (vt : Vtype) (vstart : ℕ) (o : Operand) → is_legal i vt vstart ≡ true → class_of i.op ≡ class → operand_at vt i.vd (row_of class vt.sew i).vd ≡ Some o → Obeyed class i vt o
obeyed class i vt vstart o legal is there =
    let r = rules class i vt vstart legal is in
    let two = rw there at r.beside_vs2 in
    let one = rw there at r.beside_vs1 in
    record {
      setting = r.setting;
      place = rw there at r.vd;
      spares = rw there at r.spares;
      sources = record {
        vs2 = λ s at. (rw at at r.vs2, rw at at two);
        vs1 = λ s form at. (in_vector is_placed vt i.vs1 i.form _ s form at r.vs1, in_vector (overlaps_legally (overlap_of class i) o) vt i.vs1 i.form _ s form at one);
      };
    }

-- what a legal instruction has whose destination is a group or a mask
record Ruled (class : Class) (i : VInstr) (vt : Vtype) (o : Operand) : Type 0 where
  supported : is_supported vt ≡ true
  vill : vt.vill ≡ false
  sew : IsElementWidth vt.sew
  vd : has_element_width (row_of class vt.sew i).vd ≡ true
  place : is_placed o ≡ true
  spares : spares_mask class i.vm o ≡ true
  limited : is_limited (overlap_of class i) ≡ true
  mask : (not (is_group (row_of class vt.sew i).vd) || not (may_write_mask class)) ≡ true
  sources : Sources class i vt (λ s first. (IsElementWidth s × Group (registers_for vt s) first) × (overlaps_legally (overlap_of class i) o (groups_at vt 1 s first) ≡ true))

ruled : (class : Class) (i : VInstr) (vt : Vtype) → IsTrue (is_vill_or_supported vt) → (o : Operand) → has_destination class i vt.sew ≡ true → Obeyed class i vt o → Ruled class i vt o
ruled class i vt setting o written rules =
    let a = and_parts _ _ (rw written at (all-ruled class i vt.sew)) in
    let b = and_parts _ _ a.0 in
    let there = in_setting class vt (not-true _ b.0) rules.setting in
    let sew = sew-width vt setting there in
    let c = and_parts _ _ (rw written at (all-have_widths class i vt.sew sew)) in
    let d = and_parts _ _ c.0 in
    record {
      supported = in_force vt setting there;
      vill = there;
      sew = sew;
      vd = d.0;
      place = rules.place;
      spares = rules.spares;
      limited = b.1;
      mask = a.1;
      sources = record {
        vs2 = λ s at. let x = rules.sources.vs2 s at in (lies vt s i.vs2 (rw at at d.1) x.0, x.1);
        vs1 = λ s form at. let x = rules.sources.vs1 s form at in (lies vt s i.vs1 (rw at at c.1) x.0, x.1);
      };
    }

pub legal_group_law : LegalGroupLaw
legal_group_law class i vt vstart setting legal is d at =
    let o = groups_at vt 1 d i.vd in
    let r = ruled class i vt setting o (rw at refl) (obeyed class i vt vstart o legal is (rw at refl)) in
    let p = lies vt d i.vd (rw at at r.vd) r.place in
    record {
      vill = r.vill;
      sew = r.sew;
      width = p.0;
      place = p.1;
      spares_mask = spared class i.vm vt d i.vd (not-true _ (rw at at r.mask)) r.spares;
      sources = record {
        vs2 = λ s two. let x = r.sources.vs2 s two in read-beside vt d i.vd s i.vs2 p.0 x.0.0 p.1 x.0.1 r.supported (overlap_of class i) r.limited x.1;
        vs1 = λ s form one. let x = r.sources.vs1 s form one in read-beside vt d i.vd s i.vs1 p.0 x.0.0 p.1 x.0.1 r.supported (overlap_of class i) r.limited x.1;
      };
    }

pub legal_mask_law : LegalMaskLaw
legal_mask_law class i vt vstart setting legal is at =
    let o = mask_at i.vd in
    let r = ruled class i vt setting o (rw at refl) (obeyed class i vt vstart o legal is (rw at refl)) in
    record {
      vill = r.vill;
      sew = r.sew;
      room = mask-room i.vd r.place;
      sources = record {
        vs2 = λ s two. let x = r.sources.vs2 s two in read-for_mask vt i.vd s i.vs2 x.0.0 x.0.1 (overlap_of class i) r.limited x.1;
        vs1 = λ s form one. let x = r.sources.vs1 s form one in read-for_mask vt i.vd s i.vs1 x.0.0 x.0.1 (overlap_of class i) r.limited x.1;
      };
    }
