use Rattle.std.proofs.Common.{◌≡◌, ◌+◌, ◌*◌, ◌++◌}
use Rattle.micro_ir.specs.Steps.{micros}
use Rattle.micro_ir.specs.Increments.{half_sums}
use Rattle.micro_ir.proofs.increments.emit_half_sums.Given as goal

-- the sums so far are written, each with the carry out of its bit
abbrev pub invariant-loop-bit : goal.invariant-loop-bit
invariant-loop-bit g l = record {
  ops : l.buf.ops ≡ l.fn.buf.ops ++ micros g.W.Width.BITS (half_sums g.W.Width.BITS l.from l.bit);
  spare : l.buf.spare + 6 * l.bit ≡ l.fn.buf.spare;
}
