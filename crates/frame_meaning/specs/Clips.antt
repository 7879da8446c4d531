-- When the programs of instructions set the flag of clipped results.
use Rattle.std.specs.Prelude.{◌≡◌, ◌≤◌, ℕ, Bool, false, cond, List}
use Rattle.std.specs.Int.{from_bool}
use Rattle.bit_rows.specs.Slices.{Slices}
use Rattle.cam_chain.specs.Views.{registers_of}
use Rattle.micro_ir.specs.declared.op.MicroOp.{MicroOp}
use Rattle.micro_ir.specs.Replay.{clips}
use Rattle.rvv_decode.specs.declared.instruction.VInstr.{VInstr}
use Rattle.vtype_cfg.specs.declared.configuration.Cfg.{Cfg}
use Rattle.vtype_cfg.specs.Settings.{vlmax}
use Rattle.vtype_cfg.specs.Classes.{class_of, narrowing}
use Rattle.rvv_meaning.specs.Elementwise.{clips as clips_elements}
use Rattle.rvv_meaning.specs.Operations.{Operation, reads_mask, on_elements}
use Rattle.frame_laws.specs.Classes.Plain.{AllCompute, ClipTest, AllClip}
use Rattle.frame_laws.specs.Classes.Halved.{Lists, HalfTest, AllLeave, AllFlag}
use Rattle.frame_meaning.specs.declared.Order.{Order}
use Rattle.frame_meaning.specs.declared.Order.TheVariants.{Straight, Reversed, Second, Exchanged, Widening, WideSource, Half, Quarter}
use Rattle.frame_meaning.specs.Shapes.{width_in, count_in, class_in, signs_of, operands_in, value_in, program_in}
use Rattle.frame_meaning.specs.Laws.{Runs, Ignores}
use Rattle.frame_meaning.specs.Halves.{half_count, half_operands, half_value_in, half_shape, half_program_in, IsOfHalves}

-- the operation whose value is 1 where another one clips its result, and else 0
abbrev pub flag_of : Operation → Operation
flag_of o = record o { value = λ w mode a b d m. from_bool (o.clips w mode a b d m) }

-- whether an operation clips its result, from the operands as the list takes them; none that clips takes the mask as one
abbrev pub clips_by : Order → Operation → (w mode a b addend : ℕ) → Bool
clips_by Straight o w mode a b addend = o.clips w mode a b (cond o.takes_old addend 0) false
clips_by Reversed o w mode a b addend = o.clips w mode b a (cond o.takes_old addend 0) false
clips_by Second o w mode a b addend = o.clips w mode a b (cond o.takes_old addend 0) false
clips_by Exchanged o w mode a b addend = o.clips w mode addend b (cond o.takes_old a 0) false
clips_by Widening o w mode a b addend = o.clips w mode a b (cond o.takes_old addend 0) false
clips_by WideSource o w mode a b addend = o.clips w mode a b (cond o.takes_old addend 0) false
clips_by Half o w mode a b addend = o.clips w mode a b (cond o.takes_old addend 0) false
clips_by Quarter o w mode a b addend = o.clips w mode a b (cond o.takes_old addend 0) false

-- the same of an instruction under a configuration
abbrev pub clips_in : Order → VInstr → Cfg → Operation → ClipTest
clips_in order i c o a b addend = clips_by order o (width_in order c.vtype.sew) c.vxrm a b addend

-- The program of an instruction whose operands are groups of elements at the same place sets the flag exactly where the
-- instruction clips an active element, from lists that realise its value and tell what they clip.
abbrev pub ElementsClipLaw : Type 0
ElementsClipLaw =
    (order : Order) (o : Operation) (i : VInstr) (c : Cfg) (x : ℕ) (body : ℕ → List MicroOp) (s : Slices)
    → Ignores order (flag_of o) → o.takes_mask ≡ false → Runs i c s → c.vl ≤ vlmax c.vtype c.vlen → class_of i.op ≡ class_in order
    → AllCompute (width_in order c.vtype.sew) i.vd (count_in order c.vtype) (reads_mask i o) (operands_in order (signs_of o) i c.vtype.sew) (value_in order i c o) body
    → AllClip (width_in order c.vtype.sew) (count_in order c.vtype) (operands_in order (signs_of o) i c.vtype.sew) (clips_in order i c o) body
    → clips (program_in order i c x o body) s ≡ clips_elements c (on_elements i c x o) (registers_of s)

-- ---- instructions whose elements are half as wide as those of their first operand

-- whether an operation on two operands clips its result
abbrev pub half_clips_in : Cfg → Operation → HalfTest
half_clips_in c o a b = o.clips c.vtype.sew c.vxrm a b 0 false

-- The program of such an instruction sets the flag exactly where the instruction clips an active element.
abbrev pub HalvesClipLaw : Type 0
HalvesClipLaw =
    (o : Operation) (i : VInstr) (c : Cfg) (x : ℕ) (lists : Lists) (s : Slices)
    → IsOfHalves o → IsOfHalves (flag_of o) → Runs i c s → c.vl ≤ vlmax c.vtype c.vlen → class_of i.op ≡ narrowing
    → (leave : AllLeave (half_shape i c x o) (half_operands i c.vtype.sew) (half_value_in c o) lists (half_count c.vtype))
    → AllFlag (half_shape i c x o) (half_operands i c.vtype.sew) (half_clips_in c o) lists (half_count c.vtype) leave.work
    → clips (half_program_in i c x o lists) s ≡ clips_elements c (on_elements i c x o) (registers_of s)
