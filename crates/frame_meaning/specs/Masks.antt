-- Instructions that make a mask from two operands, in the frame of masks: their shapes and programs, what these leave, and
-- what they cost.
use Rattle.std.specs.Prelude.{◌≡◌, ℕ, ◌+◌, ◌*◌, ◌≤◌, Bool, ◌&&◌, cond, List, length}
use Rattle.std.specs.Int.{from_bool}
use Rattle.bit_rows.specs.Slices.{Slices}
use Rattle.cam_chain.specs.ChainValue.{no_counts}
use Rattle.cam_chain.specs.Views.{registers_of}
use Rattle.cam_chain.specs.declared.counts.Counts.{Counts}
use Rattle.element_ops.specs.Elements.{Registers}
use Rattle.micro_ir.specs.declared.op.MicroOp.{MicroOp}
use Rattle.micro_ir.specs.Replay.{replay, AllInRange, counts_and, tally}
use Rattle.rvv_decode.specs.declared.instruction.VInstr.{VInstr}
use Rattle.vtype_cfg.specs.declared.configuration.Cfg.{Cfg}
use Rattle.vtype_cfg.specs.Settings.{vlmax}
use Rattle.vtype_cfg.specs.Classes.{Row, row, mask, group as group_place, compare, class_of}
use Rattle.rvv_meaning.specs.Elementwise.{is_ones, registers_after}
use Rattle.rvv_meaning.specs.Operations.{Operation, reads_mask, elements_at, on_elements}
use Rattle.legal_groups.specs.Facts.{group_count}
use Rattle.frame_laws.specs.Shapes.{Shape, usual_bounds}
use Rattle.frame_laws.specs.Costs.{counts_times}
use Rattle.frame_laws.specs.Masks.Programs.{mask_program}
use Rattle.frame_laws.specs.Classes.Operands.{group, operand_number}
use Rattle.frame_laws.specs.Classes.Compared.{Pair, Truth, AllTell}
use Rattle.frame_meaning.specs.Shapes.{shape_of, source_in_vs1, has_scalar, signs_of, scalar_of}
use Rattle.frame_meaning.specs.declared.Order.TheVariants.{Straight}
use Rattle.frame_meaning.specs.Laws.{Runs}
use Rattle.frame_meaning.specs.Costs.{AllMeasured}

-- the operands of a comparison: the group in vs2, and what its form names in the place of vs1
abbrev pub compare_operands : VInstr → Pair
compare_operands i = record { a = group i.vs2; b = source_in_vs1 i.form i.vs1 }

-- their places
abbrev pub compare_row : (sew : ℕ) → Row
compare_row sew = row mask (group_place sew) (group_place sew)

-- the number in the scalar's row
abbrev pub compare_scalar : VInstr → Cfg → (x : ℕ) → Operation → ℕ
compare_scalar i c x o = scalar_of Straight (signs_of o) i c.vtype.sew x

-- the number of an element's result; no comparison reads the mask that it writes over as an element
abbrev pub compare_result : VInstr → Cfg → (x : ℕ) → Operation → Registers → ℕ → Bool → ℕ
compare_result i c x o v e m =
    o.value c.vtype.sew c.vxrm (operand_number (compare_operands i).a c.vlen c.vtype.sew (compare_scalar i c x o) v e) (operand_number (compare_operands i).b c.vlen c.vtype.sew (compare_scalar i c x o) v e) 0
    (reads_mask i o && m)

-- The shape of an instruction that makes a mask with this operation: that of what it means, but for the width of the elements
-- and the registers of a group, which are those of the operands.
unfoldable pub compare_shape : VInstr → Cfg → (x : ℕ) → Operation → Shape
compare_shape i c x o =
    record (shape_of c (elements_at i c x (compare_row c.vtype.sew) o) (reads_mask i o) (has_scalar i.form) (compare_scalar i c x o) c.vtype.sew (compare_result i c x o)) { width = c.vtype.sew; registers = group_count c.vtype }

-- its program, from the lists of the registers of its operands
unfoldable pub compare_program : VInstr → Cfg → (x : ℕ) → Operation → (body : ℕ → List MicroOp) → List MicroOp
compare_program i c x o body = mask_program (compare_shape i c x o) (usual_bounds (compare_shape i c x o)) body

-- ---- what it leaves

-- the operation's value is this truth of its two operands and the mask bit
abbrev pub IsTruth : Operation → ((w a b : ℕ) → Bool → Bool) → Type 0
IsTruth o truth = (w mode a b d : ℕ) (m : Bool) → o.value w mode a b d m ≡ from_bool (truth w a b m)

-- the truth of an element, of which the mask bit is an operand where the instruction reads it
abbrev pub truth_in : VInstr → Cfg → Operation → ((w a b : ℕ) → Bool → Bool) → Truth
truth_in i c o truth a b m = truth c.vtype.sew a b (reads_mask i o && m)

-- The program of an instruction that makes a mask with this operation leaves the registers that it means, from lists that
-- tell its truth.
abbrev pub LeavesMask : ((w a b : ℕ) → Bool → Bool) → Operation → Type 0
LeavesMask truth o =
    (i : VInstr) (c : Cfg) (x : ℕ) (body : ℕ → List MicroOp) (s : Slices)
    → Runs i c s → c.vl ≤ vlmax c.vtype c.vlen → class_of i.op ≡ compare → AllTell c.vtype.sew (group_count c.vtype) (reads_mask i o) (compare_operands i) (truth_in i c o truth) body
    → registers_of (replay (compare_program i c x o body) s) ≡ registers_after c (on_elements i c x o) (registers_of s)

-- each operation whose value is a truth
abbrev pub CompareMeaningLaw : Type 0
CompareMeaningLaw = (o : Operation) (truth : (w a b : ℕ) → Bool → Bool) → IsTruth o truth → LeavesMask truth o

-- ---- what it costs

-- The searches, updates and passes of an instruction whose list for a register makes `each`: those that put its scalar into
-- a row, those of the lists, and once those of the fill, where agnostic elements become ones.
unfoldable pub compare_cost_of : VInstr → Cfg → (each : Counts) → Counts
compare_cost_of i c each =
    counts_and (cond (has_scalar i.form) (record { searches = 2; updates = 2; passes = 0 }) no_counts)
    (counts_and (counts_times (group_count c.vtype) each) (cond (is_ones c.policy) (record { searches = 1; updates = 1; passes = 0 }) no_counts))

-- The number of its operations, where the list of a register has so many: one marks the active elements of a register, one
-- packs their truths, one more lays out their mask bits where the mask is an operand, and three fill the agnostic elements.
unfoldable pub compare_length_of : VInstr → Cfg → (reads : Bool) → (long : ℕ) → ℕ
compare_length_of i c reads long = cond (has_scalar i.form) 4 0 + (group_count c.vtype * (2 + cond reads 1 0 + long) + cond (is_ones c.policy) 3 0)

-- the program of an instruction that can run on the slices
pub record CompareMeasured (i : VInstr) (c : Cfg) (s : Slices) (reads : Bool) (each : Counts) (long : ℕ) (ops : List MicroOp) : Type 0 where
  pub cost : tally ops ≡ compare_cost_of i c each
  pub count : length ops ≡ compare_length_of i c reads long
  pub range : AllInRange s.columns ops

-- what the program of such an operation costs, from lists that cost so much
abbrev pub MaskCosts : Operation → Type 0
MaskCosts o =
    (i : VInstr) (c : Cfg) (x : ℕ) (body : ℕ → List MicroOp) (s : Slices) (each : Counts) (long : ℕ)
    → Runs i c s → c.vl ≤ vlmax c.vtype c.vlen → class_of i.op ≡ compare → AllMeasured (group_count c.vtype) body each long
    → CompareMeasured i c s (reads_mask i o) each long (compare_program i c x o body)

abbrev pub CompareCostLaw : Type 0
CompareCostLaw = (o : Operation) → MaskCosts o
