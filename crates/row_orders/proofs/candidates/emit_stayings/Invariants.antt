use Rattle.std.proofs.Common.{◌≡◌, ◌+◌, ◌*◌, ◌++◌}
use Rattle.row_orders.specs.Lists.{sources, stay_rows}
use Rattle.row_orders.proofs.candidates.emit_stayings.Given as goal

-- the rows so far have theirs one bit below
abbrev pub invariant-loop-i : goal.invariant-loop-i
invariant-loop-i g l = record {
  ops : l.buf.ops ≡ l.fn.buf.ops ++ stay_rows g.W.Width.BITS (sources l.span l.b) l.start l.below l.i;
  spare : l.buf.spare + 5 * l.i ≡ l.fn.buf.spare;
}
