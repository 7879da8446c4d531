use Rattle.std.proofs.Common.{◌≡◌, ◌+◌, ◌*◌, ◌++◌}
use Rattle.move_exec.specs.Bodies.{body_list}
use Rattle.move_exec.specs.Frames.{register_length, registers_list}
use Rattle.move_exec.proofs.frames.emit_registers.Given as goal

-- the registers so far are written
abbrev pub invariant-loop-register : goal.invariant-loop-register
invariant-loop-register g l = record {
  ops : l.buf.ops ≡ l.fn.buf.ops ++ registers_list l.frame l.cfg (body_list l.frame l.body l.cfg) l.register;
  spare : l.buf.spare + l.register * register_length l.frame l.body ≡ l.fn.buf.spare;
}
