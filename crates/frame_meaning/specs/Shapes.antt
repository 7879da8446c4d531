-- The shapes of instructions under a configuration.
use Rattle.std.specs.Prelude.{ℕ, ◌*◌, ◌/◌, Bool, true, false, cond, ◌&&◌, ◌||◌, List}
use lib.Dec.{ltb}
use Rattle.bit_laws.specs.Numbers.{low}
use Rattle.bit_laws.specs.Signed.{extended}
use Rattle.element_ops.specs.Elements.{Registers}
use Rattle.micro_ir.specs.WorkRows.{result_row, left_row, right_row}
use Rattle.micro_ir.specs.declared.op.MicroOp.{MicroOp}
use Rattle.rvv_decode.specs.declared.instruction.VInstr.{VInstr}
use Rattle.rvv_decode.specs.declared.instruction.Form.{Form}
use Rattle.rvv_decode.specs.declared.instruction.Form.TheVariants.{V, X, I}
use Rattle.vtype_cfg.specs.declared.configuration.Cfg.{Cfg}
use Rattle.vtype_cfg.specs.declared.vtype.Vtype.{Vtype}
use Rattle.vtype_cfg.specs.Classes.{Class, plain, move, widening, wide_source, extension_by_two, extension_by_four, Row, row, nothing, group as group_place}
use Rattle.rvv_meaning.specs.Elementwise.{Elementwise, makes_mask, is_ones}
use Rattle.rvv_meaning.specs.Operations.{Operation, reads_mask, immediate_bits, elements_at}
use Rattle.legal_groups.specs.Facts.{registers_for}
use Rattle.frame_laws.specs.Shapes.{Shape, usual_bounds}
use Rattle.frame_laws.specs.Programs.{program}
use Rattle.frame_laws.specs.Classes.Operands.{Operand, group, scalar, narrow}
use Rattle.frame_laws.specs.Classes.Plain.{Operands, Value, with_operands, plain_result}
use Rattle.frame_meaning.specs.declared.Order.{Order}
use Rattle.frame_meaning.specs.declared.Signs.{Signs}
use Rattle.frame_meaning.specs.declared.Order.TheVariants.{Straight, Reversed, Second, Exchanged, Widening, WideSource, Half, Quarter}

-- The shape of an instruction that writes elements. The program needs besides whether the mask is an operand, the scalar
-- where there is one, with the bits of its elements, and the results as numbers of bits.
abbrev pub shape_of : Cfg → Elementwise → (reads splat : Bool) → (x scalar_width : ℕ) → (result : Registers → ℕ → Bool → ℕ) → Shape
shape_of c i reads splat x scalar_width result = record {
  width = i.width;
  vlen = c.vlen;
  registers = i.registers;
  vd = i.vd;
  reads = reads;
  masked = i.masked;
  ones = is_ones c.policy;
  vma = c.vtype.vma;
  tail = ltb c.vstart i.vl && (makes_mask i || c.vtype.vta);
  vstart = c.vstart;
  from = i.from;
  len = i.len;
  splat = splat;
  scalar = x;
  scalar_width = scalar_width;
  result = result;
}

-- ---- widths

-- the width of the elements of the destination
abbrev pub width_in : Order → (sew : ℕ) → ℕ
width_in Straight sew = sew
width_in Reversed sew = sew
width_in Second sew = sew
width_in Exchanged sew = sew
width_in Widening sew = 2 * sew
width_in WideSource sew = 2 * sew
width_in Half sew = sew
width_in Quarter sew = sew

-- how many registers it takes
abbrev pub count_in : Order → Vtype → ℕ
count_in order vt = registers_for vt (width_in order vt.sew)

-- the places of the operands, and the class of the instructions
abbrev pub row_in : Order → (sew : ℕ) → Row
row_in Straight sew = row (group_place sew) (group_place sew) (group_place sew)
row_in Reversed sew = row (group_place sew) (group_place sew) (group_place sew)
row_in Second sew = row (group_place sew) nothing (group_place sew)
row_in Exchanged sew = row (group_place sew) (group_place sew) (group_place sew)
row_in Widening sew = row (group_place (2 * sew)) (group_place sew) (group_place sew)
row_in WideSource sew = row (group_place (2 * sew)) (group_place (2 * sew)) (group_place sew)
row_in Half sew = row (group_place sew) (group_place (sew / 2)) nothing
row_in Quarter sew = row (group_place sew) (group_place (sew / 4)) nothing

abbrev pub class_in : Order → Class
class_in Straight = plain
class_in Reversed = plain
class_in Second = move
class_in Exchanged = plain
class_in Widening = widening
class_in WideSource = wide_source
class_in Half = extension_by_two
class_in Quarter = extension_by_four

-- ---- signs

-- which operands of an operation are extended by their sign
abbrev pub signs_of : Operation → Signs
signs_of o = record { a = o.signed_a; b = o.signed_b; immediate = o.signed_immediate }

-- ---- the operand in the place of vs1, which has three forms

-- as wide as the destination: the group that it names, or the scalar's row
abbrev pub source_in_vs1 : Form → (vs1 : ℕ) → Operand
source_in_vs1 V vs1 = group vs1
source_in_vs1 X vs1 = scalar
source_in_vs1 I vs1 = scalar

-- or half as wide, where it is a group
abbrev pub narrow_in_vs1 : Form → (signed : Bool) → (sew vs1 : ℕ) → Operand
narrow_in_vs1 V signed sew vs1 = narrow signed 2 sew vs1 right_row
narrow_in_vs1 X signed sew vs1 = scalar
narrow_in_vs1 I signed sew vs1 = scalar

-- whether the form has a scalar
abbrev pub has_scalar : Form → Bool
has_scalar V = false
has_scalar X = true
has_scalar I = true

-- a scalar, of which the program takes as many bits as an element of the destination has
abbrev pub scalar_at : Order → (signed : Bool) → (sew x : ℕ) → ℕ
scalar_at Straight signed sew x = x
scalar_at Reversed signed sew x = x
scalar_at Second signed sew x = x
scalar_at Exchanged signed sew x = x
scalar_at Widening signed sew x = extended signed sew (2 * sew) (low sew x)
scalar_at WideSource signed sew x = extended signed sew (2 * sew) (low sew x)
scalar_at Half signed sew x = x
scalar_at Quarter signed sew x = x

-- the number in the scalar's row
abbrev pub scalar_in : Form → Order → Signs → (sew vs1 x : ℕ) → ℕ
scalar_in V order signs sew vs1 x = 0
scalar_in X order signs sew vs1 x = scalar_at order signs.b sew x
scalar_in I order signs sew vs1 x = extended signs.immediate immediate_bits (width_in order sew) vs1

abbrev pub scalar_of : Order → Signs → VInstr → (sew x : ℕ) → ℕ
scalar_of order signs i sew x = scalar_in i.form order signs sew i.vs1 x

-- ---- the operands

-- the operands as the list takes them
abbrev pub operands_in : Order → Signs → VInstr → (sew : ℕ) → Operands
operands_in Straight signs i sew = record { a = group i.vs2; b = source_in_vs1 i.form i.vs1; addend = i.vd }
operands_in Reversed signs i sew = record { a = source_in_vs1 i.form i.vs1; b = group i.vs2; addend = i.vd }
operands_in Second signs i sew = record { a = group i.vd; b = source_in_vs1 i.form i.vs1; addend = i.vd }
operands_in Exchanged signs i sew = record { a = group i.vd; b = source_in_vs1 i.form i.vs1; addend = i.vs2 }
operands_in Widening signs i sew = record { a = narrow signs.a 2 sew i.vs2 left_row; b = narrow_in_vs1 i.form signs.b sew i.vs1; addend = i.vd }
operands_in WideSource signs i sew = record { a = group i.vs2; b = narrow_in_vs1 i.form signs.b sew i.vs1; addend = i.vd }
operands_in Half signs i sew = record { a = narrow signs.a 2 (sew / 2) i.vs2 result_row; b = group i.vd; addend = i.vd }
operands_in Quarter signs i sew = record { a = narrow signs.a 4 (sew / 4) i.vs2 result_row; b = group i.vd; addend = i.vd }

-- the value of an operation, from the operands and the mask bit, as the list takes them
abbrev pub value_by : Order → Operation → (w mode a b addend : ℕ) → Bool → ℕ
value_by Straight o w mode a b addend m = o.value w mode a b (cond o.takes_old addend 0) m
value_by Reversed o w mode a b addend m = o.value w mode b a (cond o.takes_old addend 0) m
value_by Second o w mode a b addend m = o.value w mode a b (cond o.takes_old addend 0) m
value_by Exchanged o w mode a b addend m = o.value w mode addend b (cond o.takes_old a 0) m
value_by Widening o w mode a b addend m = o.value w mode a b (cond o.takes_old addend 0) m
value_by WideSource o w mode a b addend m = o.value w mode a b (cond o.takes_old addend 0) m
value_by Half o w mode a b addend m = o.value w mode a b (cond o.takes_old addend 0) m
value_by Quarter o w mode a b addend m = o.value w mode a b (cond o.takes_old addend 0) m

-- the same of an instruction under a configuration, of which the mask bit is an operand where it reads the mask
abbrev pub value_in : Order → VInstr → Cfg → Operation → Value
value_in order i c o a b addend m = value_by order o (width_in order c.vtype.sew) c.vxrm a b addend (reads_mask i o && m)

-- ---- instructions on elements at the same place

-- what the instruction writes
unfoldable pub elements_in : Order → VInstr → Cfg → (x : ℕ) → Operation → Elementwise
elements_in order i c x o = record (elements_at i c x (row_in order c.vtype.sew) o) { registers = count_in order c.vtype; width = width_in order c.vtype.sew }

-- its shape
unfoldable pub shape_in : Order → VInstr → Cfg → (x : ℕ) → Operation → Shape
shape_in order i c x o =
    shape_of c (elements_in order i c x o) (reads_mask i o) (has_scalar i.form) (scalar_of order (signs_of o) i c.vtype.sew x) (width_in order c.vtype.sew)
    (plain_result c.vlen (width_in order c.vtype.sew) (scalar_of order (signs_of o) i c.vtype.sew x) (operands_in order (signs_of o) i c.vtype.sew) (value_in order i c o))

-- the lists of its registers with what lays their operands out, from those of a kind
abbrev pub body_in : Order → VInstr → Cfg → Operation → (body : ℕ → List MicroOp) → ℕ → List MicroOp
body_in order i c o body = with_operands (width_in order c.vtype.sew) (operands_in order (signs_of o) i c.vtype.sew) body

-- its program
unfoldable pub program_in : Order → VInstr → Cfg → (x : ℕ) → Operation → (body : ℕ → List MicroOp) → List MicroOp
program_in order i c x o body = program (shape_in order i c x o) (usual_bounds (shape_in order i c x o)) (body_in order i c o body)
