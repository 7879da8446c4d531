-- The rules of legality one by one, and what they say of the operands of every class.
use Rattle.std.proofs.Common.{◌≡◌, ℕ, ◌+◌, ◌*◌, ◌%◌, ◌<◌, ◌≤◌, Bool, true, false, not, ◌&&◌, ◌==◌, nat_le, nat_lt, [], ◌∷◌, Option, Some, None, refl, sym, ◌∙◌, arith, ◌⊎◌, inl, inr, ⊎_elim}
use Rattle.std.specs.List.{list_all}
use Rattle.std.proofs.lemmas.Bool.{and_parts, or_cases, eqb-true, leb-true, false≢true, not-true}
use Rattle.std.proofs.lemmas.Bool.Decides.{nat_tests}
use Rattle.std.proofs.Math.Nat.{mod-one}
use Rattle.rvv_decode.specs.declared.instruction.VInstr.{VInstr}
use Rattle.rvv_decode.specs.declared.instruction.Form.{Form}
use Rattle.rvv_decode.specs.declared.instruction.Form.TheVariants.{V}
use Rattle.vtype_cfg.specs.declared.vtype.Vtype.{Vtype}
use Rattle.vtype_cfg.specs.Groups.{Operand, mask_at, register_at, groups_at, whole_at, group_registers, registers, holds, overlap}
use Rattle.vtype_cfg.specs.Classes.{Class, Place, nothing, mask, register, group, groups, whole, Overlap, nowhere, row_of, class_of, operand_at, width_at, count_at, in_form, sources_of, destination_of, overlap_of, may_write_mask, starts_at_zero, needs_no_setting}
use Rattle.vtype_cfg.specs.Legality.{has_setting, has_legal_eew, has_legal_emul, is_aligned, fits_registers, is_placed, may_start_at, if_there, are_placed, overlaps_legally, spares_mask, writes_legally, obeys_rules, is_legal}
use Rattle.legal_groups.specs.Rules.{aligned_to, Lies, AreApart, LegalLaw}
use Rattle.legal_groups.proofs.Widths.{sew-width}

-- ---- one by one

-- Every rule passes, on each operand that it speaks of.
pub record Rules (class : Class) (i : VInstr) (vt : Vtype) (vstart : ℕ) : Type 0 where
  pub setting : has_setting class vt ≡ true
  pub start : may_start_at vstart class ≡ true
  pub vd : if_there is_placed (operand_at vt i.vd (row_of class vt.sew i).vd) ≡ true
  pub vs3 : if_there is_placed (operand_at vt i.vd (row_of class vt.sew i).vs3) ≡ true
  pub vs2 : if_there is_placed (operand_at vt i.vs2 (row_of class vt.sew i).vs2) ≡ true
  pub vs1 : if_there is_placed (operand_at vt i.vs1 (in_form i.form (row_of class vt.sew i).vs1)) ≡ true
  pub spares : if_there (spares_mask class i.vm) (operand_at vt i.vd (row_of class vt.sew i).vd) ≡ true
  pub beside_vs2 : if_there (λ o. if_there (overlaps_legally (overlap_of class i) o) (operand_at vt i.vs2 (row_of class vt.sew i).vs2)) (operand_at vt i.vd (row_of class vt.sew i).vd) ≡ true
  pub beside_vs1 : if_there (λ o. if_there (overlaps_legally (overlap_of class i) o) (operand_at vt i.vs1 (in_form i.form (row_of class vt.sew i).vs1))) (operand_at vt i.vd (row_of class vt.sew i).vd) ≡ true

-- what a test of the operands in vs3, vs2 and vs1 says of each
record Three (test : Operand → Bool) (a b c : Option Operand) : Type 0 where
  vs3 : if_there test a ≡ true
  vs2 : if_there test b ≡ true
  vs1 : if_there test c ≡ true

three : (test : Operand → Bool) (a b c : Option Operand) → list_all (if_there test) (a ∷ b ∷ c ∷ []) ≡ true → Three test a b c
three test a b c all =
    let p = and_parts (if_there test a) (if_there test b && (if_there test c && true)) all in
    let q = and_parts (if_there test b) (if_there test c && true) p.1 in
    record { vs3 = p.0; vs2 = q.0; vs1 = (and_parts (if_there test c) true q.1).0 }

beside : (test : Operand → Operand → Bool) (d a b c : Option Operand) → if_there (λ o. list_all (if_there (test o)) (a ∷ b ∷ c ∷ [])) d ≡ true
    → (if_there (λ o. if_there (test o) b) d ≡ true) × (if_there (λ o. if_there (test o) c) d ≡ true)
beside test None a b c all = (refl, refl)
beside test (Some o) a b c all = let t = three (test o) a b c all in (t.vs2, t.vs1)

pub rules : (class : Class) (i : VInstr) (vt : Vtype) (vstart : ℕ) → is_legal i vt vstart ≡ true → class_of i.op ≡ class → Rules class i vt vstart
unfolding is_legal obeys_rules are_placed writes_legally destination_of sources_of
rules class i vt vstart legal is =
    let h : obeys_rules class i vt vstart ≡ true = rw is at legal in
    let d = destination_of class i vt in
    let sources = sources_of class i vt in
    let at_three = operand_at vt i.vd (row_of class vt.sew i).vs3 in
    let at_two = operand_at vt i.vs2 (row_of class vt.sew i).vs2 in
    let at_one = operand_at vt i.vs1 (in_form i.form (row_of class vt.sew i).vs1) in
    let a = and_parts (has_setting class vt && may_start_at vstart class && are_placed d sources) (writes_legally class i d sources) h in
    let b = and_parts (has_setting class vt && may_start_at vstart class) (are_placed d sources) a.0 in
    let s = and_parts (has_setting class vt) (may_start_at vstart class) b.0 in
    let p = and_parts (if_there is_placed d) (list_all (if_there is_placed) sources) b.1 in
    let w = and_parts (if_there (λ o. list_all (if_there (overlaps_legally (overlap_of class i) o)) sources) d) (if_there (spares_mask class i.vm) d) a.1 in
    let q = three is_placed at_three at_two at_one p.1 in
    let x = beside (overlaps_legally (overlap_of class i)) d at_three at_two at_one w.0 in
    record { setting = s.0; start = s.1; vd = p.0; vs3 = q.vs3; vs2 = q.vs2; vs1 = q.vs1; spares = w.1; beside_vs2 = x.0; beside_vs1 = x.1 }

-- ---- operands

-- the registers of an operand that lies as it must
pub record OperandLies (o : Operand) : Type 0 where
  pub wide : has_legal_eew o ≡ true
  pub aligned : o.first % group_registers o ≡ 0
  pub few : o.fields * group_registers o ≤ 8
  pub room : o.first + o.fields * group_registers o ≤ 32

pub operand-lies : (o : Operand) → is_placed o ≡ true → OperandLies o
unfolding is_placed is_aligned fits_registers registers
operand-lies o is =
    let a = and_parts (has_legal_eew o && has_legal_emul o && (o.first % group_registers o == 0)) (nat_le (o.fields * group_registers o) 8 && nat_le (o.first + o.fields * group_registers o) 32) is in
    let b = and_parts (has_legal_eew o && has_legal_emul o) (o.first % group_registers o == 0) a.0 in
    let c = and_parts (has_legal_eew o) (has_legal_emul o) b.0 in
    let d = and_parts (nat_le (o.fields * group_registers o) 8) (nat_le (o.first + o.fields * group_registers o) 32) a.1 in
    record { wide = c.0; aligned = eqb-true _ 0 b.1; few = leb-true _ 8 d.0; room = leb-true _ 32 d.1 }

at_most_widest : (o : Operand) → has_legal_eew o ≡ true → o.eew ≤ 32
unfolding has_legal_eew
at_most_widest o legal =
    ⊎_elim
    (λ (one : (o.eew == 1) ≡ true). let e = eqb-true o.eew 1 one in omega arith)
    (λ (wide : (nat_le 8 o.eew && nat_le o.eew 32) ≡ true). leb-true o.eew 32 (and_parts (nat_le 8 o.eew) (nat_le o.eew 32) wide).1)
    (or_cases (o.eew == 1) (nat_le 8 o.eew && nat_le o.eew 32) legal)

-- an operand that stands in a place, and what the place's numbers are then
record Stands (vt : Vtype) (place : Place) (first : ℕ) (o : Operand) : Type 0 where
  at : operand_at vt first place ≡ Some o
  begins : o.first ≡ first
  width : width_at vt place ≡ o.eew
  count : count_at vt place ≡ o.fields * group_registers o
  aligned : aligned_to vt place ≡ group_registers o

in-place : (vt : Vtype) (place : Place) (first : ℕ) → (place ≡ nothing) ⊎ ((o : Operand) × Stands vt place first o)
in-place vt nothing first = inl refl
in-place vt mask first = inr (mask_at first, record { at = refl; begins = refl; width = refl; count = refl; aligned = refl })
in-place vt (register eew) first = inr (register_at eew first, record { at = refl; begins = refl; width = refl; count = refl; aligned = refl })
in-place vt (group eew) first = inr (groups_at vt 1 eew first, record { at = refl; begins = refl; width = refl; count = refl; aligned = refl })
in-place vt (groups fields eew) first = inr (groups_at vt fields eew first, record { at = refl; begins = refl; width = refl; count = refl; aligned = refl })
in-place vt (whole count) first = inr (whole_at count first, record { at = refl; begins = refl; width = refl; count = refl; aligned = refl })

-- ---- what the rules say of them

pub lies : (vt : Vtype) (place : Place) (first : ℕ) → if_there is_placed (operand_at vt first place) ≡ true → Lies vt place first
lies vt place first is =
    ⊎_elim
    (λ (none : place ≡ nothing). rw none (record { wide = omega arith; few = omega arith; room = λ some. absurd (omega arith); aligned = mod-one first }))
    (λ (there : (o : Operand) × Stands vt place first o).
    let o = there.0 in
    let s = there.1 in
    let p = operand-lies o (rw s.at at is) in
    record {
      wide = rw s.width (at_most_widest o p.wide);
      few = rw s.count p.few;
      room = λ some. rw (s.count, ← s.begins) p.room;
      aligned = rw (s.aligned, ← s.begins) p.aligned;
    })
    (in-place vt place first)

in-vector : (vt : Vtype) (form : Form) (place : Place) (first : ℕ) → form ≡ V → operand_at vt first (in_form form place) ≡ operand_at vt first place
in-vector vt form place first is = rw is refl

-- no register is in both
apart : (vd n first m : ℕ) → not (nat_lt vd (first + m) && nat_lt first (vd + n)) ≡ true → (vd + n ≤ first) ⊎ (first + m ≤ vd)
apart vd n first m off = grind (arith, nat_tests)

are-apart : (vt : Vtype) (o : Overlap) (a b : Place) (first second : ℕ) → o ≡ nowhere
    → if_there (λ d. if_there (overlaps_legally o d) (operand_at vt second b)) (operand_at vt first a) ≡ true → AreApart vt a b first second
unfolding overlaps_legally registers
are-apart vt o a b first second never is =
    ⊎_elim
    (λ (none : a ≡ nothing). rw none (λ some other. absurd (omega arith)))
    (λ (x : (d : Operand) × Stands vt a first d).
    ⊎_elim
    (λ (none : b ≡ nothing). rw none (λ some other. absurd (omega arith)))
    (λ (y : (d : Operand) × Stands vt b second d).
    let off : not (overlap (registers x.0) (registers y.0)) ≡ true = rw (never, x.1.at, y.1.at) at is in
    λ some other. rw (x.1.count, y.1.count, ← x.1.begins, ← y.1.begins) (apart x.0.first (x.0.fields * group_registers x.0) y.0.first (y.0.fields * group_registers y.0) off))
    (in-place vt b second))
    (in-place vt a first)

-- a destination that spares the mask does not begin with v0
no-mask : (first n : ℕ) → not (nat_le first 0 && nat_lt 0 (first + n)) ≡ true → 0 < n → 0 < first
no-mask first n off some = grind (arith, nat_tests)

spared : (vt : Vtype) (class : Class) (vm : Bool) (place : Place) (first : ℕ) → if_there (spares_mask class vm) (operand_at vt first place) ≡ true
    → may_write_mask class ≡ false → vm ≡ false → 0 < count_at vt place → 0 < first
unfolding spares_mask registers
spared vt class vm place first is never masked some =
    ⊎_elim
    (λ (none : place ≡ nothing). absurd (let z : 0 < count_at vt nothing = rw none at some in omega arith))
    (λ (x : (o : Operand) × Stands vt place first o).
    let off : not (holds (registers x.0) 0) ≡ true = rw (x.1.at, masked, never) at is in
    rw (← x.1.begins) (no-mask x.0.first (x.0.fields * group_registers x.0) off (rw x.1.count at some)))
    (in-place vt place first)

-- Under vill no class is legal that needs a setting.
pub in_setting : (class : Class) (vt : Vtype) → needs_no_setting class ≡ false → has_setting class vt ≡ true → vt.vill ≡ false
unfolding has_setting
in_setting class vt needs has =
    ⊎_elim
    (λ (there : not vt.vill ≡ true). not-true vt.vill there)
    (λ (none : needs_no_setting class ≡ true). absurd (false≢true (sym needs ∙ none)))
    (or_cases (not vt.vill) (needs_no_setting class) has)

first-alone : (class : Class) (vstart : ℕ) → may_start_at vstart class ≡ true → starts_at_zero class ≡ true → vstart ≡ 0
unfolding may_start_at
first-alone class vstart may never = eqb-true vstart 0 (rw never at may)

pub legal_law : LegalLaw
legal_law class i vt vstart supported legal is =
    let r = rules class i vt vstart legal is in
    record {
      setting = λ needs. let there = in_setting class vt needs r.setting in (there, sew-width vt supported there);
      start = first-alone class vstart r.start;
      vd = lies vt (row_of class vt.sew i).vd i.vd r.vd;
      vs2 = lies vt (row_of class vt.sew i).vs2 i.vs2 r.vs2;
      vs1 = λ form. lies vt (row_of class vt.sew i).vs1 i.vs1 (rw (in-vector vt i.form (row_of class vt.sew i).vs1 i.vs1 form) at r.vs1);
      spares_mask = spared vt class i.vm (row_of class vt.sew i).vd i.vd r.spares;
      beside_vs2 = λ never. are-apart vt (overlap_of class i) (row_of class vt.sew i).vd (row_of class vt.sew i).vs2 i.vd i.vs2 never r.beside_vs2;
      beside_vs1 = λ never form.
          are-apart vt (overlap_of class i) (row_of class vt.sew i).vd (row_of class vt.sew i).vs1 i.vd i.vs1 never
          (rw (in-vector vt i.form (row_of class vt.sew i).vs1 i.vs1 form) at r.beside_vs1);
    }
