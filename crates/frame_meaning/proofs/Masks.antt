-- Legal comparisons are instructions that make a mask in the frame.
use Rattle.std.proofs.Common.{◌≡◌, ◌*◌, ◌/◌, ℕ, ◌<◌, ◌≤◌, Bool, ◌||◌, ltb, List, refl, sym, ◌∙◌, ap, arith}
use Rattle.std.proofs.lemmas.Bool.{and_parts, ltb-true}
use Rattle.bit_rows.specs.Slices.{Slices}
use Rattle.cam_chain.specs.Views.{registers_of}
use Rattle.cam_chain.specs.declared.counts.Counts.{Counts}
use Rattle.element_ops.specs.Elements.{element_of}
use Rattle.micro_ir.specs.declared.op.MicroOp.{MicroOp}
use Rattle.micro_ir.specs.Replay.{replay}
use Rattle.rvv_decode.specs.declared.instruction.VInstr.{VInstr}
use Rattle.rvv_decode.specs.declared.instruction.Form.{Form}
use Rattle.rvv_decode.specs.declared.instruction.Form.TheVariants.{V, X, I}
use Rattle.vtype_cfg.specs.declared.configuration.Cfg.{Cfg}
use Rattle.vtype_cfg.specs.Settings.{vlmax}
use Rattle.vtype_cfg.specs.Classes.{Class, Row, row_of, compare, class_of}
use Rattle.rvv_meaning.specs.Elementwise.{makes_mask, registers_after}
use Rattle.rvv_meaning.specs.Operations.{Operation, reads_mask, elements_at, on_elements}
use Rattle.rvv_meaning.specs.Operations as meaning
use Rattle.legal_groups.specs.Facts.{group_count, LowestOrApart, MaskGroups}
use Rattle.legal_groups.proofs.Groups.{legal_compare_law, vlmax-held}
use Rattle.frame_laws.specs.Shapes.{Shape, Bounded, usual_bounds}
use Rattle.frame_laws.specs.Bytes.{mask_after}
use Rattle.frame_laws.proofs.Ends.{usual_bounds_law}
use Rattle.frame_laws.specs.Masks.Programs.{mask_of}
use Rattle.frame_laws.specs.Masks.Laws.{MaskFramed}
use Rattle.frame_laws.proofs.Masks.Costs.{mask_tally_law, mask_length_law}
use Rattle.frame_laws.proofs.Masks.Ranges.{mask_range_law}
use Rattle.frame_laws.specs.Classes.Operands.{operand_of}
use Rattle.frame_laws.specs.Classes.Compared.{AllTell, mask_value, IsMaskReadable, IsCompared}
use Rattle.frame_laws.proofs.Classes.Operands.{whole-register}
use Rattle.frame_laws.proofs.Classes.Compared.{compared_bytes_law}
use Rattle.frame_meaning.specs.Shapes.{source_in_vs1, has_scalar, signs_of, scalar_in, scalar_of}
use Rattle.frame_meaning.specs.declared.Order.TheVariants.{Straight}
use Rattle.frame_meaning.specs.Laws.{Runs}
use Rattle.frame_meaning.specs.Costs.{AllMeasured}
use Rattle.frame_meaning.specs.Masks.{compare_operands, compare_row, compare_shape, compare_program, truth_in, IsTruth, CompareMeaningLaw, compare_cost_of, compare_length_of, CompareMeasured, CompareCostLaw}
use Rattle.frame_meaning.proofs.Meaning.{mask_meaning_law}
use Rattle.frame_meaning.proofs.Instructions.{second-value}
use Rattle.frame_meaning.proofs.OperandWidths.{width-of, extended-same}

-- the second operand can be read while the mask is written
second-readable : (sh : Shape) (f : Form) (vs1 : ℕ) → (f ≡ V → LowestOrApart sh.registers sh.vd vs1) → sh.splat ≡ has_scalar f → sh.scalar_width ≡ sh.width → IsMaskReadable sh (source_in_vs1 f vs1)
second-readable sh V vs1 beside splat wide = beside refl
second-readable sh X vs1 beside splat wide = (splat, wide)
second-readable sh I vs1 beside splat wide = (splat, wide)

-- the places of the class
row-of-class : (class : Class) (sew : ℕ) (i : VInstr) → class ≡ compare → row_of class sew i ≡ compare_row sew
unfolding row_of
row-of-class class sew i is = rw is refl

module _ (i : VInstr) (c : Cfg) (x : ℕ) (operation : Operation) where
  abbrev shape : Shape
  shape = compare_shape i c x operation

  -- what legality and the configuration say of the instruction
  groups-of : (s : Slices) → Runs i c s → class_of i.op ≡ compare → MaskGroups i c.vtype
  groups-of s runs class = legal_compare_law i c.vtype c.vstart runs.setting runs.legal class

  framed : (s : Slices) → Runs i c s → c.vl ≤ vlmax c.vtype c.vlen → class_of i.op ≡ compare → MaskFramed shape s.columns
  unfolding compare_shape elements_at
  framed s runs short class =
      let groups = groups-of s runs class in
      let w = width-of c.vtype.sew groups.sew in
      let least : 8 ≤ c.vtype.sew = w.least in
      let few : group_count c.vtype ≤ 8 = groups.few in
      let whole = whole-register c.vtype.sew c.vlen s.columns (omega arith) w.lanes runs.long in
      let held : vlmax c.vtype c.vlen ≤ group_count c.vtype * (c.vlen / c.vtype.sew) = vlmax-held c.vtype c.vlen runs.setting groups.vill whole in
      record {
        width = omega arith;
        lanes = w.lanes;
        vlen = runs.long;
        numbers = omega arith;
        some = omega arith;
        room = groups.room;
        length = omega arith;
        scalar_width = omega arith;
        scalar_lanes = w.lanes;
      }

  bounded : Bounded (mask_of shape) (usual_bounds shape)
  unfolding compare_shape elements_at
  bounded =
      usual_bounds_law (mask_of shape) refl (λ t. ltb-true c.vstart c.vl (and_parts (ltb c.vstart c.vl) (makes_mask (elements_at i c x (compare_row c.vtype.sew) operation) || c.vtype.vta) t).0)

  -- it is one of the class
  compared : (truth : (w a b : ℕ) → Bool → Bool) (s : Slices) → IsTruth operation truth
      → Runs i c s → c.vl ≤ vlmax c.vtype c.vlen → class_of i.op ≡ compare → IsCompared shape (compare_operands i) (truth_in i c operation truth) s.columns
  unfolding compare_shape elements_at
  compared truth s valued runs short class =
      let groups = groups-of s runs class in
      record {
        framed = framed s runs short class;
        result = λ v e m. valued _ _ _ _ _ _;
        a = groups.vs2;
        b = second-readable shape i.form i.vs1 groups.vs1 refl refl;
      }

  -- its value is that of the operands of the meaning
  value-here : (truth : (w a b : ℕ) → Bool → Bool) (v : List (List ℕ)) (e : ℕ) → IsTruth operation truth
      → 8 ≤ c.vtype.sew → i.vs1 < 32 → mask_value shape (compare_operands i) (truth_in i c operation truth) v e ≡ (elements_at i c x (compare_row c.vtype.sew) operation).value v e
  unfolding compare_shape elements_at
  value-here truth v e valued least small =
      let w = c.vtype.sew in
      let at = compare_row w in
      let d = meaning.operand_d i c x at operation v e in
      let m = meaning.mask_operand i c x at operation v e in
      let first = element_of (c.vlen / 8) v i.vs2 w e in
      let second = operand_of (source_in_vs1 i.form i.vs1) (c.vlen / 8) w (scalar_in i.form Straight (signs_of operation) w i.vs1 x) v e in
      sym (valued w c.vxrm first second d m)
      ∙ ap (λ (z : ℕ). operation.value w c.vxrm z second d m) (sym (extended-same operation.signed_a w first))
      ∙ ap (λ (z : ℕ). operation.value w c.vxrm (meaning.operand_a i c x at operation v e) z d m) (second-value Straight i c x at operation i.form v e refl refl refl refl least small)

  -- the program leaves the registers of the meaning
  leaves : (truth : (w a b : ℕ) → Bool → Bool) (body : ℕ → List MicroOp) (s : Slices) → IsTruth operation truth
      → Runs i c s → c.vl ≤ vlmax c.vtype c.vlen → class_of i.op ≡ compare → AllTell c.vtype.sew (group_count c.vtype) (reads_mask i operation) (compare_operands i) (truth_in i c operation truth) body
      → registers_of (replay (compare_program i c x operation body) s) ≡ registers_after c (on_elements i c x operation) (registers_of s)
  unfolding compare_program compare_shape elements_at
  leaves truth body s valued runs short class tells =
      let v = registers_of s in
      let with = compare_operands i in
      let w = width-of c.vtype.sew (groups-of s runs class).sew in
      compared_bytes_law shape (usual_bounds shape) with (truth_in i c operation truth) body s (compared truth s valued runs short class) bounded tells runs.some w.whole
      ∙ ap (λ (f : ℕ → ℕ). mask_after (mask_of shape) f v) (λ n e. value-here truth v e valued w.least runs.immediate n)
      ∙ mask_meaning_law c (elements_at i c x (compare_row c.vtype.sew) operation) (reads_mask i operation) (has_scalar i.form) (scalar_of Straight (signs_of operation) i c.vtype.sew x) c.vtype.sew shape.result v refl
      ∙ ap (λ (at : Row). registers_after c (elements_at i c x at operation) v) (sym (row-of-class (class_of i.op) c.vtype.sew i class))

  -- what it costs
  measured : (body : ℕ → List MicroOp) (s : Slices) (each : Counts) (long : ℕ)
      → Runs i c s → c.vl ≤ vlmax c.vtype c.vlen → class_of i.op ≡ compare → AllMeasured (group_count c.vtype) body each long
      → CompareMeasured i c s (reads_mask i operation) each long (compare_program i c x operation body)
  unfolding compare_program compare_shape elements_at compare_cost_of compare_length_of
  measured body s each long runs short class costs =
      let frame = framed s runs short class in
      let b = usual_bounds shape in
      let w = width-of c.vtype.sew (groups-of s runs class).sew in
      record {
        cost = mask_tally_law shape b body each (λ g below. (costs g below).cost);
        count = mask_length_law shape b body long frame.some (λ g below. (costs g below).count);
        range = mask_range_law shape b body s.columns frame w.built (λ g below. (costs g below).range s.columns);
      }

-- ---- the laws

pub compare_meaning_law : CompareMeaningLaw
compare_meaning_law o truth valued i c x body s runs short class tells = leaves i c x o truth body s valued runs short class tells

pub compare_cost_law : CompareCostLaw
compare_cost_law o i c x body s each long runs short class costs = measured i c x o body s each long runs short class costs
