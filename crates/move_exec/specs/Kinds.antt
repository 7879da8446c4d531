-- The kinds of instruction, what each leaves, and what computes it.
use Rattle.std.specs.Prelude.{ℕ, Bool, true, false, not, List, [], Option, None, Some}
use Rattle.cam_chain.specs.ChainValue.{no_counts}
use Rattle.cam_chain.specs.declared.counts.Counts.{Counts}
use Rattle.gen_logic.specs.declared.kinds.Logic.TheVariants.{And, Or, Xor, Nand, Nor, Xnor, Andn, Orn}
use Rattle.gen_logic.specs.Values.{truth_of}
use Rattle.micro_ir.specs.declared.op.MicroOp.{MicroOp}
use Rattle.rvv_decode.specs.declared.instruction.Form.{Form}
use Rattle.rvv_decode.specs.declared.instruction.VInstr.{VInstr}
use Rattle.rvv_decode.specs.declared.instruction.VOp.{VOp}
use Rattle.rvv_decode.specs.declared.instruction.VOp.TheVariants.{Opi, Opm}
use Rattle.rvv_decode.specs.declared.instruction.OpiOp.{OpiOp}
use Rattle.rvv_decode.specs.declared.instruction.OpiOp.TheVariants.{Vslideup, Vslidedown, Vrgather, VmvWhole}
use Rattle.rvv_decode.specs.declared.instruction.OpmOp.{OpmOp}
use Rattle.rvv_decode.specs.declared.instruction.OpmOp.TheVariants.{Vmand, Vmor, Vmxor, Vmnand, Vmnor, Vmxnor, Vmandn, Vmorn, Vmsbf, Vmsif, Vmsof, Vid, Vslide1up, Vslide1down, VmvSX}
use Rattle.steer_net.specs.declared.reach.Reach.TheVariants.{Before, Upto, At}
use Rattle.vtype_cfg.specs.declared.configuration.Cfg.{Cfg}
use Rattle.vtype_cfg.specs.Classes.{Class, mask_logic as mask_logic_class, mask_first, index}
use Rattle.rvv_meaning.specs.Whole.{Leaving, mask_logic, before_first, up_to_first, only_first, element_numbers}
use Rattle.move_exec.specs.declared.bodies.Body.{Body}
use Rattle.move_exec.specs.declared.bodies.Body.TheVariants.{Bits, Marked, Numbers as Counted}
use Rattle.move_exec.specs.declared.frames.Frame.{Frame}
use Rattle.move_exec.specs.declared.kinds.Kind.{Kind}
use Rattle.move_exec.specs.declared.kinds.Kind.TheVariants.{Masks, Marks, Numbers, Moves}
use Rattle.move_exec.specs.declared.moves.Move.TheVariants.{Up, Down, UpByOne, DownByOne, Gathered, ScalarIn, Whole}
use Rattle.move_exec.specs.Moves.{moved, class_of_move, moves_in, frame_of_move, body_of_move, moves_scalar, single_for, single_counts, single_length, HasLast}
use Rattle.move_exec.specs.Written.{mask_frame, group_frame}

-- the kind of an instruction, where it has one
abbrev pub opm_kind : OpmOp → Option Kind
opm_kind Vmand = Some (Masks And)
opm_kind Vmor = Some (Masks Or)
opm_kind Vmxor = Some (Masks Xor)
opm_kind Vmnand = Some (Masks Nand)
opm_kind Vmnor = Some (Masks Nor)
opm_kind Vmxnor = Some (Masks Xnor)
opm_kind Vmandn = Some (Masks Andn)
opm_kind Vmorn = Some (Masks Orn)
opm_kind Vmsbf = Some (Marks Before)
opm_kind Vmsif = Some (Marks Upto)
opm_kind Vmsof = Some (Marks At)
opm_kind Vid = Some Numbers
opm_kind Vslide1up = Some (Moves UpByOne)
opm_kind Vslide1down = Some (Moves DownByOne)
opm_kind VmvSX = Some (Moves ScalarIn)
opm_kind _ = None

abbrev pub opi_kind : OpiOp → Option Kind
opi_kind Vslideup = Some (Moves Up)
opi_kind Vslidedown = Some (Moves Down)
opi_kind Vrgather = Some (Moves Gathered)
opi_kind VmvWhole = Some (Moves Whole)
opi_kind _ = None

unfoldable pub kind_for : VOp → Option Kind
kind_for (Opi op) = opi_kind op
kind_for (Opm op) = opm_kind op
kind_for _ = None

-- what an instruction of the kind leaves
abbrev pub leaving_of : Kind → Leaving
leaving_of (Masks kind) i c x v = mask_logic i c x v (truth_of kind false)
leaving_of (Marks Before) i c x v = before_first i c x v
leaving_of (Marks Upto) i c x v = up_to_first i c x v
leaving_of (Marks At) i c x v = only_first i c x v
leaving_of Numbers i c x v = element_numbers i c x v
leaving_of (Moves how) i c x v = moved how i c x v

-- its class
abbrev pub class_for : Kind → Class
class_for (Masks kind) = mask_logic_class
class_for (Marks how) = mask_first
class_for Numbers = index
class_for (Moves how) = class_of_move how

-- whether an instruction of the kind has a program in a form
abbrev pub has_program : Kind → Form → Bool
has_program (Moves how) form = moves_in how form
has_program _ form = true

-- the registers that an instruction of the kind writes, and what computes them
abbrev pub frame_for : Kind → VInstr → Cfg → (x : ℕ) → Frame
frame_for (Masks kind) i c x = mask_frame false i c
frame_for (Marks how) i c x = mask_frame (not i.vm) i c
frame_for Numbers i c x = group_frame i c
frame_for (Moves how) i c x = frame_of_move how i c x

abbrev pub body_for : Kind → VInstr → Cfg → (x : ℕ) → Body
body_for (Masks kind) i c x = Bits kind i.vs2 i.vs1
body_for (Marks how) i c x = Marked i.vs2 how
body_for Numbers i c x = Counted
body_for (Moves how) i c x = body_of_move how i c x

-- whether its program begins with the scalar
abbrev pub takes_scalar : Kind → Bool
takes_scalar (Moves how) = moves_scalar how
takes_scalar _ = false

-- what stands after the registers; its searches, updates and passes, and the number of its operations
abbrev pub last_list : Kind → VInstr → Cfg → List MicroOp
last_list (Moves how) i c = single_for how i c
last_list _ i c = []

abbrev pub last_counts : Kind → Counts
last_counts (Moves how) = single_counts how
last_counts _ = no_counts

abbrev pub last_length : Kind → ℕ
last_length (Moves how) = single_length how
last_length _ = 0

-- what its emission at w bits needs
abbrev pub HasLastList : Kind → (w : ℕ) → VInstr → Cfg → Type 0
HasLastList (Moves how) w i c = HasLast how w i c
HasLastList _ w i c = Unit {0}
