use Rattle.std.proofs.Common.{◌≡◌, ◌+◌, ◌*◌, ◌++◌}
use Rattle.micro_ir.specs.Steps.{micros}
use Rattle.gen_fixed.specs.Lists.{high_bits}
use Rattle.gen_fixed.proofs.narrow.emit_high.Given as goal

-- the bits so far are read
abbrev pub invariant-loop-done : goal.invariant-loop-done
invariant-loop-done g l = record {
  ops : l.buf.ops ≡ l.fn.buf.ops ++ micros g.L.Width.BITS (high_bits l.row l.bits l.done);
  spare : l.buf.spare + 3 * l.done ≡ l.fn.buf.spare;
}
