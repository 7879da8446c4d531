-- The vector instructions of a workload are legal under its settings.
use Rattle.std.proofs.Common.{◌≡◌, ℕ, ◌+◌, ◌%◌, ◌<◌, true, not, refl, ◌∙◌, ap, arith}
use Rattle.std.specs.Prelude.{nat_le, nat_eq}
use Rattle.std.proofs.lemmas.Bool.{or_right, eq-eqb, le-leb}
use Rattle.rvv_decode.specs.declared.instruction.VInstr.{VInstr}
use Rattle.rvv_decode.specs.declared.instruction.Form.{Form}
use Rattle.rvv_decode.specs.declared.instruction.Form.TheVariants.{V, X, I}
use Rattle.vtype_cfg.specs.declared.vtype.Vtype.{Vtype}
use Rattle.vtype_cfg.specs.Groups.{register_at, registers}
use Rattle.vtype_cfg.specs.Classes.{plain, index, configuration, by_width, nothing, group, class_of, in_form, operand_at, row_of, destination_of, sources_of, overlap_of, starts_at_zero, needs_no_setting}
use Rattle.vtype_cfg.specs.Legality.{if_there, has_setting, has_legal_eew, has_legal_emul, is_aligned, fits_registers, is_placed, may_overlap_by_width, overlaps_legally, spares_mask, may_start_at, are_placed, writes_legally, obeys_rules, is_legal}
use Rattle.work_runs.specs.Stages.{Width, bytes, halves, words, bits, type_of}

-- each register is a group of its own
placed : (w : Width) (first : ℕ) → first < 32 → is_placed (register_at (bits w) first) ≡ true
unfolding is_placed has_legal_eew has_legal_emul is_aligned fits_registers registers
placed w first low =
    let multiple : nat_eq (first % 1) 0 ≡ true = eq-eqb (first % 1) 0 (omega arith) in
    let inside : nat_le (first + 1) 32 ≡ true = le-leb (first + 1) 32 (omega arith) in
    by w multiple inside
  where
    by : (w : Width) → nat_eq (first % 1) 0 ≡ true → nat_le (first + 1) 32 ≡ true → is_placed (register_at (bits w) first) ≡ true
    by bytes multiple inside = rw (multiple, inside) refl
    by halves multiple inside = rw (multiple, inside) refl
    by words multiple inside = rw (multiple, inside) refl

-- registers of elements of one width may be the same
apart_or_same : (w : Width) (d s : ℕ) → overlaps_legally by_width (register_at (bits w) d) (register_at (bits w) s) ≡ true
unfolding overlaps_legally may_overlap_by_width
apart_or_same bytes d s = or_right _ _ refl
apart_or_same halves d s = or_right _ _ refl
apart_or_same words d s = or_right _ _ refl

-- what stands in the place of vs1, which is a register in one form alone
in_place : (w : Width) (first : ℕ) (form : Form) → first < 32 → if_there is_placed (operand_at (type_of w) first (in_form form (group (bits w)))) ≡ true
in_place bytes first V low = placed bytes first low
in_place halves first V low = placed halves first low
in_place words first V low = placed words first low
in_place w first X low = refl
in_place w first I low = refl

beside : (w : Width) (d first : ℕ) (form : Form) → if_there (overlaps_legally by_width (register_at (bits w) d)) (operand_at (type_of w) first (in_form form (group (bits w)))) ≡ true
beside bytes d first V = apart_or_same bytes d first
beside halves d first V = apart_or_same halves d first
beside words d first V = apart_or_same words d first
beside w d first X = refl
beside w d first I = refl

-- a place that holds nothing does so in each form
no_place : (form : Form) → in_form form nothing ≡ nothing
no_place V = refl
no_place X = refl
no_place I = refl

module _ (i : VInstr) (vd : i.vd < 32) (vs1 : i.vs1 < 32) (vs2 : i.vs2 < 32) (unmasked : i.vm ≡ true) where
  obeys-plain : (w : Width) → obeys_rules plain i (type_of w) 0 ≡ true
  unfolding obeys_rules has_setting may_start_at starts_at_zero are_placed writes_legally destination_of sources_of row_of overlap_of spares_mask
  obeys-plain bytes = rw (placed bytes i.vd vd, placed bytes i.vs2 vs2, in_place bytes i.vs1 i.form vs1, apart_or_same bytes i.vd i.vs2, beside bytes i.vd i.vs1 i.form, unmasked) refl
  obeys-plain halves = rw (placed halves i.vd vd, placed halves i.vs2 vs2, in_place halves i.vs1 i.form vs1, apart_or_same halves i.vd i.vs2, beside halves i.vd i.vs1 i.form, unmasked) refl
  obeys-plain words = rw (placed words i.vd vd, placed words i.vs2 vs2, in_place words i.vs1 i.form vs1, apart_or_same words i.vd i.vs2, beside words i.vd i.vs1 i.form, unmasked) refl

  obeys-index : (w : Width) → obeys_rules index i (type_of w) 0 ≡ true
  unfolding obeys_rules has_setting may_start_at starts_at_zero are_placed writes_legally destination_of sources_of row_of overlap_of spares_mask
  obeys-index bytes = rw (placed bytes i.vd vd, no_place i.form, unmasked) refl
  obeys-index halves = rw (placed halves i.vd vd, no_place i.form, unmasked) refl
  obeys-index words = rw (placed words i.vd vd, no_place i.form, unmasked) refl

  pub legal-plain : (w : Width) → class_of i.op ≡ plain → is_legal i (type_of w) 0 ≡ true
  unfolding is_legal
  legal-plain w is = ap (λ class. obeys_rules class i (type_of w) 0) is ∙ obeys-plain w

  pub legal-index : (w : Width) → class_of i.op ≡ index → is_legal i (type_of w) 0 ≡ true
  unfolding is_legal
  legal-index w is = ap (λ class. obeys_rules class i (type_of w) 0) is ∙ obeys-index w

-- a configuration is legal whatever stands
pub legal-configuration : (i : VInstr) (vt : Vtype) (vstart : ℕ) → class_of i.op ≡ configuration → is_legal i vt vstart ≡ true
unfolding is_legal obeys_rules has_setting needs_no_setting may_start_at starts_at_zero are_placed writes_legally destination_of sources_of row_of
legal-configuration i vt vstart is =
    ap (λ class. obeys_rules class i vt vstart) is ∙ rw (or_right (not vt.vill) true refl, no_place i.form) refl
