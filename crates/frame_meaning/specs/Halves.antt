-- Instructions whose elements are half as wide as those of their first operand, in the frame: their shapes and programs, what
-- these leave, and what they cost.
use Rattle.std.specs.Prelude.{◌≡◌, ◌≤◌, ℕ, ◌*◌, Bool, false, cond, nat_lt, List}
use Rattle.bit_laws.specs.Numbers.{low}
use Rattle.bit_rows.specs.Slices.{Slices}
use Rattle.cam_chain.specs.Views.{registers_of}
use Rattle.cam_chain.specs.declared.counts.Counts.{Counts}
use Rattle.micro_ir.specs.WorkRows.{left_row}
use Rattle.micro_ir.specs.declared.op.MicroOp.{MicroOp}
use Rattle.micro_ir.specs.Replay.{replay}
use Rattle.rvv_decode.specs.declared.instruction.Form.{Form}
use Rattle.rvv_decode.specs.declared.instruction.Form.TheVariants.{V, X, I}
use Rattle.rvv_decode.specs.declared.instruction.VInstr.{VInstr}
use Rattle.vtype_cfg.specs.declared.configuration.Cfg.{Cfg}
use Rattle.vtype_cfg.specs.declared.vtype.Vtype.{Vtype}
use Rattle.vtype_cfg.specs.Settings.{vlmax}
use Rattle.vtype_cfg.specs.Classes.{Row, row, group as group_place, narrowing, class_of}
use Rattle.rvv_meaning.specs.Elementwise.{Elementwise, registers_after}
use Rattle.rvv_meaning.specs.Operations.{Operation, reads_mask, elements_at, on_elements}
use Rattle.legal_groups.specs.Facts.{registers_for}
use Rattle.frame_laws.specs.Shapes.{Shape, usual_bounds}
use Rattle.frame_laws.specs.Programs.{program}
use Rattle.frame_laws.specs.Classes.Operands.{Operand, scalar, narrow}
use Rattle.frame_laws.specs.Classes.Halved.{Pair, Lists, HalfValue, half_result, halved_list, AllLeave}
use Rattle.frame_meaning.specs.Shapes.{shape_of, has_scalar}
use Rattle.frame_meaning.specs.Laws.{Runs}
use Rattle.frame_meaning.specs.Costs.{AllMeasured, ElementsMeasured}

-- ---- operands

-- of each register so many halves hold elements: both, or one where a group is less than a register
abbrev pub half_count : Vtype → ℕ
half_count vt = cond (nat_lt vt.lmul8 8) 1 2

-- their places
abbrev pub half_row : (sew : ℕ) → Row
half_row sew = row (group_place sew) (group_place (2 * sew)) (group_place sew)

-- what stands in the place of vs1, extended by zeros
abbrev pub half_in_vs1 : Form → (sew vs1 : ℕ) → Operand
half_in_vs1 V sew vs1 = narrow false 2 sew vs1 left_row
half_in_vs1 X sew vs1 = scalar
half_in_vs1 I sew vs1 = scalar

abbrev pub half_operands : VInstr → (sew : ℕ) → Pair
half_operands i sew = record { a = i.vs2; b = half_in_vs1 i.form sew i.vs1 }

-- the number in the scalar's row
abbrev pub half_scalar_in : Form → (sew vs1 x : ℕ) → ℕ
half_scalar_in V sew vs1 x = 0
half_scalar_in X sew vs1 x = low sew x
half_scalar_in I sew vs1 x = vs1

abbrev pub half_scalar : VInstr → (sew x : ℕ) → ℕ
half_scalar i sew x = half_scalar_in i.form sew i.vs1 x

-- ---- shapes and programs

-- the value of an operation on two operands
abbrev pub half_value_in : Cfg → Operation → HalfValue
half_value_in c o a b = o.value c.vtype.sew c.vxrm a b 0 false

-- what the instruction writes
unfoldable pub half_elements : VInstr → Cfg → (x : ℕ) → Operation → Elementwise
half_elements i c x o = record (elements_at i c x (half_row c.vtype.sew) o) { registers = registers_for c.vtype c.vtype.sew; width = c.vtype.sew }

unfoldable pub half_shape : VInstr → Cfg → (x : ℕ) → Operation → Shape
half_shape i c x o =
    shape_of c (half_elements i c x o) (reads_mask i o) (has_scalar i.form) (half_scalar i c.vtype.sew x) (2 * c.vtype.sew)
    (half_result c.vlen c.vtype.sew (half_scalar i c.vtype.sew x) (half_operands i c.vtype.sew) (half_value_in c o))

-- the operations on each register of the destination, from the lists of the registers of the first operand
abbrev pub half_body : VInstr → Cfg → (x : ℕ) → Operation → Lists → ℕ → List MicroOp
half_body i c x o lists = halved_list (half_shape i c x o) (half_operands i c.vtype.sew) lists (half_count c.vtype)

unfoldable pub half_program_in : VInstr → Cfg → (x : ℕ) → Operation → Lists → List MicroOp
half_program_in i c x o lists = program (half_shape i c x o) (usual_bounds (half_shape i c x o)) (half_body i c x o lists)

-- ---- what it leaves

-- the value depends on the two operands alone, and none of these has a sign of its own
pub record IsOfHalves (o : Operation) : Type 0 where
  pub ignores : (w mode a b d : ℕ) (m : Bool) → o.value w mode a b d m ≡ o.value w mode a b 0 false
  pub a : o.signed_a ≡ false
  pub b : o.signed_b ≡ false
  pub immediate : o.signed_immediate ≡ false

-- The program of such an instruction leaves the registers that it means, from lists that leave its value.
abbrev pub HalvesMeaningLaw : Type 0
HalvesMeaningLaw =
    (o : Operation) (i : VInstr) (c : Cfg) (x : ℕ) (lists : Lists) (s : Slices)
    → IsOfHalves o → Runs i c s → c.vl ≤ vlmax c.vtype c.vlen → class_of i.op ≡ narrowing
    → AllLeave (half_shape i c x o) (half_operands i c.vtype.sew) (half_value_in c o) lists (half_count c.vtype)
    → registers_of (replay (half_program_in i c x o lists) s) ≡ registers_after c (on_elements i c x o) (registers_of s)

-- ---- what it costs

-- what its program costs, where the operations on each register cost so much
abbrev pub HalvesCostLaw : Type 0
HalvesCostLaw =
    (o : Operation) (i : VInstr) (c : Cfg) (x : ℕ) (lists : Lists) (s : Slices) (each : Counts) (long : ℕ)
    → Runs i c s → class_of i.op ≡ narrowing → AllMeasured (registers_for c.vtype c.vtype.sew) (half_body i c x o lists) each long
    → ElementsMeasured i c s (registers_for c.vtype c.vtype.sew) (reads_mask i o) each long (half_program_in i c x o lists)
