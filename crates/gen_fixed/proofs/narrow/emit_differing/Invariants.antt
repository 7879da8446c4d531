use Rattle.std.proofs.Common.{◌≡◌, ◌+◌, ◌-◌, ◌*◌, ◌++◌}
use Rattle.micro_ir.specs.Steps.{micros}
use Rattle.gen_fixed.specs.Lists.{differing}
use Rattle.gen_fixed.proofs.narrow.emit_differing.Given as goal

-- the bits so far are compared
abbrev pub invariant-loop-done : goal.invariant-loop-done
invariant-loop-done g l = record {
  ops : l.buf.ops ≡ l.fn.buf.ops ++ micros g.L.Width.BITS (differing l.row (l.bits - 1) l.done);
  spare : l.buf.spare + (4 * l.done - 1) ≡ l.fn.buf.spare;
}
