use Rattle.std.proofs.Common.{◌≡◌, ◌+◌, ◌*◌, ◌++◌}
use Rattle.row_orders.specs.Lists.{sources, begin_rows}
use Rattle.row_orders.proofs.candidates.emit_beginnings.Given as goal

-- the rows so far have their candidates
abbrev pub invariant-loop-i : goal.invariant-loop-i
invariant-loop-i g l = record {
  ops : l.buf.ops ≡ l.fn.buf.ops ++ begin_rows g.W.Width.BITS (sources l.span l.b) l.i;
  spare : l.buf.spare + 5 * l.i ≡ l.fn.buf.spare;
}
