use Rattle.std.proofs.Common.{◌≡◌, ◌+◌, ◌*◌, ◌++◌}
use Rattle.row_orders.specs.Lists.{sources, compare_rows}
use Rattle.row_orders.proofs.bits.emit_comparing.Given as goal

-- the rows so far are compared
abbrev pub invariant-loop-i : goal.invariant-loop-i
invariant-loop-i g l = record {
  ops : l.buf.ops ≡ l.fn.buf.ops ++ compare_rows g.W.Width.BITS (sources l.span l.b) l.start l.bit l.i;
  spare : l.buf.spare + 2 * l.i ≡ l.fn.buf.spare;
}
