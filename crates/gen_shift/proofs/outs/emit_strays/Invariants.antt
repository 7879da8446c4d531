use Rattle.std.proofs.Common.{◌≡◌, ◌+◌, ◌-◌, ◌*◌, ◌++◌}
use Rattle.micro_ir.specs.Steps.{micros}
use Rattle.gen_shift.specs.Lists.{strays}
use Rattle.gen_shift.proofs.outs.emit_strays.Given as goal

-- the bits so far are read
abbrev pub invariant-loop-bit : goal.invariant-loop-bit
invariant-loop-bit g l = record {
  ops : l.buf.ops ≡ l.fn.buf.ops ++ micros g.W.Width.BITS (strays l.former l.bit);
  spare : l.buf.spare + (3 * l.bit - 1) ≡ l.fn.buf.spare;
}
