-- The instructions that move elements between places, or bring a scalar into one: what each leaves, and what computes it.
use Rattle.std.specs.Prelude.{◌≡◌, ℕ, ◌+◌, ◌-◌, ◌*◌, ◌/◌, ◌^◌, ◌<◌, Bool, true, false, cond, not, eqb, max, min, List, []}
use Rattle.cam_chain.specs.ChainValue.{no_counts}
use Rattle.cam_chain.specs.declared.counts.Counts.{Counts}
use Rattle.gen_logic.specs.declared.kinds.Logic.TheVariants.{Second}
use Rattle.gen_perm.specs.Lists.{single_ops}
use Rattle.legal_groups.specs.Facts.{IsElementWidth}
use Rattle.micro_ir.specs.Measures.{counts}
use Rattle.micro_ir.specs.WorkRows.{active_row}
use Rattle.micro_ir.specs.declared.op.MicroOp.{MicroOp}
use Rattle.micro_ir.specs.declared.op.MicroOp.TheVariants.{Window}
use Rattle.rvv_decode.specs.declared.instruction.Form.{Form}
use Rattle.rvv_decode.specs.declared.instruction.Form.TheVariants.{V, X, I}
use Rattle.rvv_decode.specs.declared.instruction.VInstr.{VInstr}
use Rattle.vtype_cfg.specs.declared.configuration.Cfg.{Cfg}
use Rattle.vtype_cfg.specs.Classes.{Class, plain, slide_up, gather, scalar_in, whole_move}
use Rattle.vtype_cfg.specs.Settings.{vlmax}
use Rattle.rvv_meaning.specs.Whole.{Leaving, slid_up, slid_down, slid_up_by_one, slid_down_by_one, gathered_by_index, scalar_in_first, moved_whole}
use Rattle.move_exec.specs.declared.bodies.Body.{Body}
use Rattle.move_exec.specs.declared.bodies.Body.TheVariants.{Bits, Slid, Picked, Scalar}
use Rattle.move_exec.specs.declared.frames.Frame.{Frame}
use Rattle.move_exec.specs.declared.moves.Move.{Move}
use Rattle.move_exec.specs.declared.moves.Move.TheVariants.{Up, Down, UpByOne, DownByOne, Gathered, ScalarIn, Whole}
use Rattle.move_exec.specs.Written.{group_frame, offset_frame, first_frame, whole_frame, amount_for}

-- what such an instruction leaves, and its class
abbrev pub moved : Move → Leaving
moved Up i c x v = slid_up i c x v
moved Down i c x v = slid_down i c x v
moved UpByOne i c x v = slid_up_by_one i c x v
moved DownByOne i c x v = slid_down_by_one i c x v
moved Gathered i c x v = gathered_by_index i c x v
moved ScalarIn i c x v = scalar_in_first i c x v
moved Whole i c x v = moved_whole i c x v

abbrev pub class_of_move : Move → Class
class_of_move Up = slide_up
class_of_move Down = plain
class_of_move UpByOne = slide_up
class_of_move DownByOne = plain
class_of_move Gathered = gather
class_of_move ScalarIn = scalar_in
class_of_move Whole = whole_move

-- whether such an instruction has a program in a form: a gather by a vector of indices has none
abbrev pub gathers_one : Form → Bool
gathers_one V = false
gathers_one X = true
gathers_one I = true

abbrev pub moves_in : Move → Form → Bool
moves_in Gathered form = gathers_one form
moves_in _ form = true

-- ---- what it writes

abbrev pub frame_of_move : Move → VInstr → Cfg → (x : ℕ) → Frame
frame_of_move Up i c x = offset_frame i c (amount_for i.form i.vs1 x)
frame_of_move Down i c x = group_frame i c
frame_of_move UpByOne i c x = group_frame i c
frame_of_move DownByOne i c x = group_frame i c
frame_of_move Gathered i c x = group_frame i c
frame_of_move ScalarIn i c x = first_frame i c
frame_of_move Whole i c x = whole_frame i c

-- ---- what computes it

abbrev pub slid_body : VInstr → Cfg → (up : Bool) → (by : ℕ) → Body
slid_body i c up by = Slid i.vs2 up by (vlmax c.vtype c.vlen)

abbrev pub body_of_move : Move → VInstr → Cfg → (x : ℕ) → Body
body_of_move Up i c x = slid_body i c true (amount_for i.form i.vs1 x)
body_of_move Down i c x = slid_body i c false (amount_for i.form i.vs1 x)
body_of_move UpByOne i c x = slid_body i c true 1
body_of_move DownByOne i c x = slid_body i c false 1
body_of_move Gathered i c x = Picked i.vs2 (amount_for i.form i.vs1 x) (vlmax c.vtype c.vlen)
body_of_move ScalarIn i c x = Scalar
body_of_move Whole i c x = Bits Second i.vs2 i.vs2

-- whether its program begins with the scalar
abbrev pub moves_scalar : Move → Bool
moves_scalar UpByOne = true
moves_scalar DownByOne = true
moves_scalar ScalarIn = true
moves_scalar _ = false

-- The scalar into one element, after the group: the operations on the register that has it, from a number on.
abbrev pub single_list : VInstr → Cfg → (number start : ℕ) → List MicroOp
single_list i c number start =
    single_ops c.vtype.sew
    (Window active_row c.vtype.sew (number / (c.vlen / c.vtype.sew) * (c.vlen / c.vtype.sew)) start (min (number + 1) c.vl) (not i.vm))
    (i.vd + number / (c.vlen / c.vtype.sew))

-- The first element; or the last one, and where there is none the window is empty.
abbrev pub last_start : Cfg → ℕ
last_start c = cond (eqb c.vl 0) 0 (max c.vstart (c.vl - 1))

abbrev pub single_for : Move → VInstr → Cfg → List MicroOp
single_for UpByOne i c = single_list i c 0 c.vstart
single_for DownByOne i c = single_list i c (c.vl - 1) (last_start c)
single_for _ i c = []

-- its searches, updates and passes, and the number of its operations
abbrev pub single_counts : Move → Counts
single_counts UpByOne = counts 2 2 0
single_counts DownByOne = counts 2 2 0
single_counts _ = no_counts

abbrev pub single_length : Move → ℕ
single_length UpByOne = 5
single_length DownByOne = 5
single_length _ = 0

-- the element lies in a register of elements of SEW bits that there is
pub record IsPlaced (i : VInstr) (c : Cfg) (number : ℕ) : Type 0 where
  pub wide : IsElementWidth c.vtype.sew
  pub some : 0 < c.vlen / c.vtype.sew
  pub room : i.vd + number / (c.vlen / c.vtype.sew) < 32
  pub small : number < 2 ^ 31

-- What the emission of these operations at w bits needs.
abbrev pub HasLast : Move → (w : ℕ) → VInstr → Cfg → Type 0
HasLast UpByOne w i c = (c.vtype.sew ≡ w) × IsPlaced i c 0
HasLast DownByOne w i c = (c.vtype.sew ≡ w) × IsPlaced i c (c.vl - 1)
HasLast _ w i c = Unit {0}
