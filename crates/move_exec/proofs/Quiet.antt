-- Lists that set no flag of clipped results.
use Rattle.std.proofs.Common.{◌≡◌, ℕ, zero, suc, ◌+◌, ◌*◌, ◌/◌, Bool, true, false, cond, List, [], ◌++◌, refl, ◌∙◌}
use Rattle.bit_rows.specs.Slices.{Slices}
use Rattle.gen_reduce.specs.Masks.{prefix_search}
use Rattle.micro_ir.specs.declared.op.MicroOp.{MicroOp}
use Rattle.micro_ir.specs.Replay.{replay, clips, all_keep_control}
use Rattle.micro_ir.specs.Pieces.{commit}
use Rattle.micro_ir.specs.Steps.{Step, micros}
use Rattle.micro_ir.specs.WorkRows.{result_row}
use Rattle.micro_ir.proofs.Keeping.{micros-keep}
use Rattle.micro_ir.proofs.Lists.{clips-append, clips-none}
use Rattle.steer_net.specs.declared.reach.Reach.{Reach}
use Rattle.vtype_cfg.specs.declared.configuration.Cfg.{Cfg}
use Rattle.move_exec.specs.declared.bodies.Body.{Body}
use Rattle.move_exec.specs.declared.bodies.Body.TheVariants.{Bits, Marked, Numbers, Slid, Picked, Scalar}
use Rattle.move_exec.specs.declared.frames.Frame.{Frame}
use Rattle.move_exec.specs.Bodies.{body_at, body_list}
use Rattle.move_exec.specs.Frames.{window_of, fill_of, register_list, registers_list, scalar_list, frame_program}

abbrev pub IsQuiet : List MicroOp → Type 0
IsQuiet ops = (s : Slices) → clips ops s ≡ false

pub quiet-none : IsQuiet []
unfolding clips
quiet-none s = refl

-- one that leaves the control numbers
pub quiet-keep : (ops : List MicroOp) → all_keep_control ops ≡ true → IsQuiet ops
quiet-keep ops keep s = clips-none ops s keep

quiet-steps : (w : ℕ) (steps : List Step) → IsQuiet (micros w steps)
quiet-steps w steps = quiet-keep (micros w steps) (micros-keep w steps)

pub quiet-append : (xs ys : List MicroOp) → IsQuiet xs → IsQuiet ys → IsQuiet (xs ++ ys)
quiet-append xs ys first second s = clips-append xs ys s ∙ rw (first s, second (replay xs s)) refl

quiet-cond : (b : Bool) (ops : List MicroOp) → IsQuiet ops → IsQuiet (cond b ops [])
quiet-cond true ops quiet = quiet
quiet-cond false ops quiet = quiet-none

quiet-search : (row : ℕ) (how : Reach) → IsQuiet (prefix_search row how)
unfolding clips
quiet-search row how s = refl

-- the list of a register
body-quiet : (f : Frame) (body : Body) (first g : ℕ) → IsQuiet (body_at f body first g)
unfolding clips
body-quiet f (Bits kind a b) first g s = quiet-steps f.width _ s
body-quiet f (Marked source how) first g s = quiet-append (prefix_search (source + g) how) (micros 1 (commit 1 result_row (f.vd + g))) (quiet-search (source + g) how) (quiet-steps 1 _) s
body-quiet f Numbers first g s = quiet-steps f.width _ _
body-quiet f (Slid base up by limit) first g s = quiet-steps f.width _ _
body-quiet f (Picked base index limit) first g s = quiet-steps f.width _ _
body-quiet f Scalar first g s = quiet-steps f.width _ s

-- the registers, and the program
module _ (f : Frame) (c : Cfg) (body : Body) where
  register-quiet : (g : ℕ) → IsQuiet (register_list f c (body_list f body c g) g)
  unfolding register_list
  register-quiet g =
      let list : List MicroOp = body_list f body c g in
      let fill : List MicroOp = fill_of f c (g * (c.vlen / f.width)) (f.vd + g) in
      quiet-append (window_of f (g * (c.vlen / f.width))) (list ++ fill) (quiet-keep _ refl)
      (quiet-append list fill (body-quiet f body (g * (c.vlen / f.width)) g) (quiet-cond f.ones _ (quiet-keep _ (micros-keep f.width _))))

  registers-quiet : (g : ℕ) → IsQuiet (registers_list f c (body_list f body c) g)
  unfolding registers_list
  registers-quiet zero = quiet-none
  registers-quiet (suc g) = quiet-append (registers_list f c (body_list f body c) g) (register_list f c (body_list f body c g) g) (registers-quiet g) (register-quiet g)

  pub program-quiet : (takes : Bool) (w x : ℕ) → IsQuiet (frame_program f c takes w x (body_list f body c))
  program-quiet takes w x =
      quiet-append (scalar_list takes w x) (registers_list f c (body_list f body c) f.registers) (quiet-cond takes _ (quiet-steps w _)) (registers-quiet f.registers)
