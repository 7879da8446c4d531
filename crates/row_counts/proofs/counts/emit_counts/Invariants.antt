use Rattle.std.proofs.Common.{◌≡◌, ◌+◌, ◌*◌, ◌++◌}
use Rattle.row_counts.specs.Lists.{count_bits}
use Rattle.row_counts.proofs.counts.emit_counts.Given as goal

-- the bits so far are counted
abbrev pub invariant-loop-bit : goal.invariant-loop-bit
invariant-loop-bit l = record {
  ops : l.buf.ops ≡ l.fn.buf.ops ++ count_bits l.width l.row l.counting l.bit;
  spare : l.buf.spare + 2 * l.bit ≡ l.fn.buf.spare;
}
