use Rattle.std.proofs.Common.{◌≡◌, ℕ, ◌+◌, ◌*◌, ◌<◌, ◌++◌}
use Rattle.vec_exec.specs.Programs.{IsHalfMade, half_register_length, half_registers_list}
use Rattle.vec_exec.proofs.halves.emit_half_registers.Given as goal

-- the registers so far are written
abbrev pub invariant-loop-register : goal.invariant-loop-register
invariant-loop-register g l = record {
  ops : l.buf.ops ≡ l.fn.buf.ops ++ half_registers_list l.recipe l.i l.cfg l.register;
  spare : l.buf.spare + l.register * half_register_length l.recipe l.i l.cfg ≡ l.fn.buf.spare;
  made : (g : ℕ) → g < l.register → IsHalfMade l.recipe l.i l.cfg g;
}
