use Rattle.std.proofs.Common.{◌≡◌, ℕ, ◌+◌, ◌*◌, ◌<◌, ◌++◌}
use Rattle.rvv_meaning.specs.Elementwise.{is_ones}
use Rattle.vec_exec.specs.Programs.{IsMaskMade, mask_register_length, mask_registers_list}
use Rattle.vec_exec.proofs.Written.{free_so_far}
use Rattle.vec_exec.proofs.registers.emit_mask_registers.Given as goal

-- the registers so far are done
abbrev pub invariant-loop-register : goal.invariant-loop-register
invariant-loop-register g l = record {
  ops : l.buf.ops ≡ l.fn.buf.ops ++ mask_registers_list l.recipe l.i l.cfg l.register;
  spare : l.buf.spare + (l.register * mask_register_length l.recipe l.i l.cfg + free_so_far (is_ones l.cfg.policy) l.register) ≡ l.fn.buf.spare;
  made : (g : ℕ) → g < l.register → IsMaskMade l.recipe l.i l.cfg g;
}
