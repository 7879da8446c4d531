use Rattle.std.proofs.Common.{◌≡◌, ◌+◌, ◌*◌, ◌++◌}
use Rattle.micro_ir.specs.Steps.{micros}
use Rattle.gen_div.specs.Lists.{nonzero_row, gathering}
use Rattle.gen_div.proofs.signs.emit_gathering.Given as goal

-- the bits so far are gathered
abbrev pub invariant-loop-bit : goal.invariant-loop-bit
invariant-loop-bit g l = record {
  ops : l.buf.ops ≡ l.fn.buf.ops ++ micros g.W.Width.BITS (gathering nonzero_row l.b l.bit);
  spare : l.buf.spare + l.bit * 5 ≡ l.fn.buf.spare;
}
