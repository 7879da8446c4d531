-- The programs of instructions by their kinds, and what they cost.
use Rattle.std.specs.Prelude.{◌≡◌, ℕ, ◌+◌, Bool, true, List, ◌++◌}
use Rattle.cam_chain.specs.declared.counts.Counts.{Counts}
use Rattle.micro_ir.specs.Replay.{counts_and}
use Rattle.micro_ir.specs.declared.op.MicroOp.{MicroOp}
use Rattle.rvv_decode.specs.declared.instruction.VInstr.{VInstr}
use Rattle.vtype_cfg.specs.declared.configuration.Cfg.{Cfg}
use Rattle.move_exec.specs.declared.bodies.Body.{Body}
use Rattle.move_exec.specs.declared.frames.Frame.{Frame}
use Rattle.move_exec.specs.declared.kinds.Kind.{Kind}
use Rattle.move_exec.specs.Bodies.{Ready, body_list, body_counts, body_length, emitted_at}
use Rattle.move_exec.specs.Costs.{frame_cost, frame_length}
use Rattle.move_exec.specs.Frames.{frame_program}
use Rattle.move_exec.specs.Kinds.{frame_for, body_for, takes_scalar, last_list, last_counts, last_length, HasLastList}

-- the program of a frame whose registers are computed so, which begins with a scalar x at w bits where it takes one
abbrev pub scalar_program : Frame → Body → Cfg → (takes : Bool) → (w x : ℕ) → List MicroOp
scalar_program f body c takes w x = frame_program f c takes w x (body_list f body c)

-- its searches, updates and passes, and the number of its operations
abbrev pub scalar_cost : Frame → Body → (takes : Bool) → Counts
scalar_cost f body takes = frame_cost f.registers f.ones takes (body_counts body)

abbrev pub scalar_length : Frame → Body → (takes : Bool) → ℕ
scalar_length f body takes = frame_length f.registers f.ones takes (body_length body)

-- the program of an instruction of the kind: the scalar, where it takes one, the registers, and what stands after them
unfoldable pub move_program : Kind → VInstr → Cfg → (x : ℕ) → List MicroOp
move_program kind i c x = scalar_program (frame_for kind i c x) (body_for kind i c x) c (takes_scalar kind) (frame_for kind i c x).width x ++ last_list kind i c

-- its searches, updates and passes, which do not depend on the scalar
unfoldable pub move_cost : Kind → VInstr → Cfg → Counts
move_cost kind i c = counts_and (scalar_cost (frame_for kind i c 0) (body_for kind i c 0) (takes_scalar kind)) (last_counts kind)

-- the number of its operations
abbrev pub program_length : Kind → Frame → Body → ℕ
program_length kind f body = scalar_length f body (takes_scalar kind) + last_length kind

-- what its emission needs of the registers and of what computes them
pub record Emittable (kind : Kind) (f : Frame) (body : Body) (i : VInstr) (c : Cfg) : Type 0 where
  pub ready : Ready f body
  pub scalar : takes_scalar kind ≡ true → f.width ≡ emitted_at f.width
  pub last : HasLastList kind (emitted_at f.width) i c
