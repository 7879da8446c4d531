-- The programs of frames as lists: those of the frame's laws.
use Rattle.std.proofs.Common.{◌≡◌, ℕ, zero, suc, ◌+◌, Bool, List, [], ◌++◌, add-one, refl, ap}
use Rattle.element_ops.specs.Elements.{Registers}
use Rattle.frame_laws.specs.Programs.{one_register, first_registers, program}
use Rattle.micro_ir.specs.declared.op.MicroOp.{MicroOp}
use Rattle.vtype_cfg.specs.declared.configuration.Cfg.{Cfg}
use Rattle.move_exec.specs.declared.frames.Frame.{Frame}
use Rattle.move_exec.specs.Frames.{register_list, registers_list, scalar_list, frame_program, frame_shape, frame_bounds}

pub registers-none : (f : Frame) (c : Cfg) (body : ℕ → List MicroOp) → registers_list f c body 0 ≡ []
unfolding registers_list
registers-none f c body = refl

pub registers-more : (f : Frame) (c : Cfg) (body : ℕ → List MicroOp) (g : ℕ) → registers_list f c body (g + 1) ≡ registers_list f c body g ++ register_list f c (body g) g
unfolding registers_list
registers-more f c body g = rw (add-one g) refl

-- ---- the program of a frame is that of its shape

module _ (f : Frame) (c : Cfg) (takes : Bool) (w x : ℕ) (result : Registers → ℕ → Bool → ℕ) where
  one : (body : List MicroOp) (g : ℕ) → one_register (frame_shape f c takes w x result) (frame_bounds f) g body ≡ register_list f c body g
  unfolding one_register register_list
  one body g = refl

  first : (body : ℕ → List MicroOp) (g : ℕ) → first_registers (frame_shape f c takes w x result) (frame_bounds f) body g ≡ registers_list f c body g
  unfolding first_registers registers_list
  first body zero = refl
  first body (suc g) = rw (first body g, one (body g) g) refl

  pub listed : (body : ℕ → List MicroOp) → program (frame_shape f c takes w x result) (frame_bounds f) body ≡ frame_program f c takes w x body
  unfolding program
  listed body = ap (λ (xs : List MicroOp). scalar_list takes w x ++ xs) (first body f.registers)
