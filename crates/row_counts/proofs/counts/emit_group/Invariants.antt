use Rattle.std.proofs.Common.{◌≡◌, ◌+◌, ◌*◌, ◌++◌}
use Rattle.row_counts.specs.Lists.{count_rows}
use Rattle.row_counts.proofs.counts.emit_group.Given as goal

-- the bits of the registers so far are counted
abbrev pub invariant-loop-register : goal.invariant-loop-register
invariant-loop-register l = record {
  ops : l.buf.ops ≡ l.fn.buf.ops ++ count_rows l.width l.span l.counting l.register;
  spare : l.buf.spare + l.register * (2 * l.width + 1) ≡ l.fn.buf.spare;
}
