-- Instructions without a program: the lowest element of a register, and elements that are moved between registers.
use Rattle.std.proofs.Common.{◌≡◌, ℕ, ◌+◌, ◌*◌, ◌/◌, ◌%◌, ◌^◌, ◌<◌, ◌≤◌, Bool, true, false, ◌&&◌, inl, inr, List, Option, Some, None, refl, sym, ◌∙◌, ap, arith}
use Rattle.std.specs.Prelude.{IsTrue}
use Rattle.std.proofs.lemmas.Bool.{and_parts, false≢true}
use Rattle.bit_laws.specs.Signed.{extended}
use Rattle.bit_rows.specs.Slices.{Slices}
use Rattle.element_ops.specs.Elements.{element_of, IsSize}
use Rattle.element_ops.proofs.Groups.{little-lt}
use Rattle.cam_chain.specs.Views.{registers_of}
use Rattle.cam_chain.proofs.Registers.{are-registers_of}
use Rattle.rvv_decode.specs.declared.instruction.Form.{Form}
use Rattle.rvv_decode.specs.declared.instruction.OpmOp.{OpmOp}
use Rattle.rvv_decode.specs.declared.instruction.OpmOp.TheVariants.{VmvXS, Vcpop, Vfirst}
use Rattle.rvv_decode.specs.declared.instruction.VInstr.{VInstr}
use Rattle.rvv_decode.specs.declared.instruction.VOp.{VOp}
use Rattle.rvv_decode.specs.declared.instruction.VOp.TheVariants.{Opi, Opm, Config, Memory}
use Rattle.vtype_cfg.specs.Classes.{opm_class, class_of, destination_of, sources_of, scalar_out, needs_no_setting}
use Rattle.vtype_cfg.specs.Legality.{is_legal, obeys_rules, has_setting, may_start_at, are_placed, writes_legally}
use Rattle.vtype_cfg.specs.declared.configuration.Cfg.{Cfg}
use Rattle.legal_groups.specs.Facts.{IsElementWidth}
use Rattle.legal_groups.proofs.Rules.{in_setting}
use Rattle.legal_groups.proofs.Widths.{sew-width, at_width}
use Rattle.vtype_cfg.specs.Settings.{is_valid}
use Rattle.micro_ir.proofs.Lists.{or_false}
use Rattle.machine.proofs.Configurations.{left-is, effect-is}
use Rattle.machine.proofs.Leaving.{Kind, computed-left}
use Rattle.vec_exec.proofs.Placed.{valid-setting}
use Rattle.element_moves.specs.Permutations.{LeavesRegisters}
use Rattle.vec_exec.specs.Programs.{is_engine, is_engine_op, is_opm_engine}
use Rattle.rvv_meaning.specs.Elementwise.{Elementwise, registers_after, clips, is_ones}
use Rattle.rvv_meaning.specs.States.{Core, cfg_at, advanced, executed_vector, vector_effect_at}
use Rattle.machine.specs.Fields.{VectorFits}
use Rattle.rvv_meaning.specs.Operations.{operation_for}
use Rattle.rvv_meaning.specs.Vectors.{VectorEffect, is_computed, scalar_operand, left_of, elements_effect}
use Rattle.rvv_meaning.specs.Whole.{Left, elements, number, whole_for, makes_number}

-- ---- the lowest element of a register

-- a setting is in force where one is moved out
pub out-width : (i : VInstr) (c : Cfg) → IsTrue (is_valid c) → is_legal i c.vtype c.vstart ≡ true → i.op ≡ Opm VmvXS → IsElementWidth c.vtype.sew
unfolding is_legal obeys_rules opm_class needs_no_setting
out-width i c valid legal named =
    let class : class_of i.op ≡ scalar_out = rw named refl in
    let rules : obeys_rules scalar_out i c.vtype c.vstart ≡ true = rw class at legal in
    let d = destination_of scalar_out i c.vtype in
    let sources = sources_of scalar_out i c.vtype in
    let a = and_parts (has_setting scalar_out c.vtype && may_start_at c.vstart scalar_out && are_placed d sources) (writes_legally scalar_out i d sources) rules in
    let b = and_parts (has_setting scalar_out c.vtype && may_start_at c.vstart scalar_out) (are_placed d sources) a.0 in
    let s = and_parts (has_setting scalar_out c.vtype) (may_start_at c.vstart scalar_out) b.0 in
    sew-width c.vtype (valid-setting c valid) (in_setting scalar_out c.vtype refl s.0)

-- what is known of the size of an element
pub record Sized (w : ℕ) : Type 0 where
  pub size : IsSize (w / 8)
  pub whole : 8 * (w / 8) ≡ w
  pub some : 0 < w
  pub few : w ≤ 32
  pub in_word : w / 8 ≤ 4

pub sized : (w : ℕ) → IsElementWidth w → Sized w
sized w width = at_width Sized
    (record { size = inl refl; whole = refl; some = omega arith; few = omega arith; in_word = omega arith })
    (record { size = inr (inl refl); whole = refl; some = omega arith; few = omega arith; in_word = omega arith })
    (record { size = inr (inr refl); whole = refl; some = omega arith; few = omega arith; in_word = omega arith })
    w width

-- the width of the element that is moved out
pub out-sized : (i : VInstr) (core : Core) (cfg : Cfg) → cfg ≡ cfg_at core → IsTrue (is_valid cfg) → VectorFits core i → i.op ≡ Opm VmvXS → Sized cfg.vtype.sew
out-sized i core cfg is valid fits named = sized cfg.vtype.sew (out-width i cfg valid (rw is fits.legal) named)

-- an element of a register is below 2 to the power of its bits
pub element-small : (s : Slices) (r w e : ℕ) → 8 * (w / 8) ≡ w → element_of (4 * s.columns) (registers_of s) r w e < 2 ^ w
unfolding element_of
element-small s r w e whole =
    let bytes = are-registers_of s in
    let small = little-lt (w / 8) _ (λ k. bytes.bytes (r + (e * (w / 8) + k) / (4 * s.columns)) ((e * (w / 8) + k) % (4 * s.columns))) in
    rw whole at small

-- what makes a number without a program moves one out
opm-named : (op : OpmOp) → makes_number (Opm op) ≡ true → is_opm_engine op ≡ false → Opm op ≡ Opm VmvXS
opm-named VmvXS makes quiet = refl
opm-named Vcpop makes quiet = absurd (false≢true (sym quiet))
opm-named Vfirst makes quiet = absurd (false≢true (sym quiet))
opm-named _ makes quiet = absurd (false≢true makes)

out-named : (op : VOp) (form : Form) → makes_number op ≡ true → is_engine_op op form ≡ false → op ≡ Opm VmvXS
out-named (Opm op) form makes quiet = opm-named op makes quiet
out-named (Opi op) form makes quiet = absurd (false≢true makes)
out-named (Config op) form makes quiet = absurd (false≢true makes)
out-named (Memory op) form makes quiet = absurd (false≢true makes)

pub moves-out : (i : VInstr) → makes_number i.op ≡ true → is_engine i ≡ false → i.op ≡ Opm VmvXS
unfolding is_engine
moves-out i makes quiet = out-named i.op i.form makes quiet

-- what it leaves
pub out-left : (i : VInstr) (c : Cfg) (x : ℕ) (v : List (List ℕ)) → i.op ≡ Opm VmvXS
    → left_of i c x v ≡ Some (number (extended true c.vtype.sew 32 (element_of (c.vlen / 8) v i.vs2 c.vtype.sew 0)))
unfolding operation_for whole_for
out-left i c x v named = rw named refl

-- ---- elements that are moved between registers

-- What such an instruction leaves: its elements, and it clips none.
pub record Moved (i : VInstr) (core : Core) (w : List (List ℕ)) : Type 0 where
  pub element : Elementwise
  pub left : left_of i (cfg_at core) (scalar_operand i core.regs) core.vectors ≡ Some (elements element)
  pub registers : w ≡ registers_after (cfg_at core) element core.vectors
  pub unclipped : clips (cfg_at core) element core.vectors ≡ false

elements-of : (op : VOp) (l : Left) → makes_number op ≡ false → Kind (makes_number op) l → (e : Elementwise) × (l ≡ elements e)
elements-of op l apart kind = rw apart at kind

pub moved : (i : VInstr) (core : Core) (w : List (List ℕ)) → is_computed i.op ≡ true → makes_number i.op ≡ false
    → LeavesRegisters (cfg_at core) core.vectors (left_of i (cfg_at core) (scalar_operand i core.regs) core.vectors) w → Moved i core w
moved i core w computed apart leaves =
    let it = computed-left i (cfg_at core) (scalar_operand i core.regs) core.vectors computed in
    let e = elements-of i.op it.left apart it.kind in
    let is : left_of i (cfg_at core) (scalar_operand i core.regs) core.vectors ≡ Some (elements e.0) = it.is ∙ ap Some e.1 in
    let both : (w ≡ registers_after (cfg_at core) e.0 core.vectors) × (clips (cfg_at core) e.0 core.vectors ≡ false) = rw is at leaves in
    record { element = e.0; left = is; registers = both.0; unclipped = both.1 }

-- the core after it, and the vector registers
pub moved-core : (i : VInstr) (c : Core) (w : List (List ℕ)) → Moved i c w → advanced (record c { vectors = w; csrs = record c.csrs { vstart = 0 } }) ≡ executed_vector i c
unfolding elements_effect
moved-core i c w it = rw (left-is i c (elements it.element) it.left, it.registers, it.unclipped, or_false c.csrs.vxsat) refl

pub moved-vectors : (i : VInstr) (c : Core) (w : List (List ℕ)) → Moved i c w → (vector_effect_at i c).vectors (λ element. is_ones c.policy) ≡ w
unfolding elements_effect
moved-vectors i c w it = ap (λ (e : VectorEffect). e.vectors (λ element. is_ones c.policy)) (effect-is i c (elements it.element) it.left) ∙ sym it.registers
