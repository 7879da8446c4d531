use Rattle.std.proofs.Common.{◌≡◌, ◌+◌, ◌*◌, ◌++◌}
use Rattle.micro_ir.specs.Steps.{micros}
use Rattle.gen_div.specs.Lists.{division_rounds}
use Rattle.gen_div.specs.Kinds.{round_length}
use Rattle.gen_div.proofs.rounds.emit_rounds.Given as goal

-- the rounds so far are written
abbrev pub invariant-loop-round : goal.invariant-loop-round
invariant-loop-round g l = record {
  ops : l.buf.ops ≡ l.fn.buf.ops ++ micros g.W.Width.BITS (division_rounds g.W.Width.BITS l.b l.round);
  spare : l.buf.spare + l.round * round_length g.W.Width.BITS ≡ l.fn.buf.spare;
}
