use Rattle.std.proofs.Common.{◌≡◌, ◌+◌, ◌*◌, ◌++◌}
use Rattle.micro_ir.specs.Steps.{micros}
use Rattle.gen_mul.specs.Lists.{product_rounds}
use Rattle.gen_mul.specs.Kinds.{round_length}
use Rattle.gen_mul.proofs.rounds.emit_rounds.Given as goal

-- the rounds so far are written
abbrev pub invariant-loop-bit : goal.invariant-loop-bit
invariant-loop-bit g l = record {
  ops : l.buf.ops ≡ l.fn.buf.ops ++ micros g.W.Width.BITS (product_rounds g.W.Width.BITS l.a l.b l.bit);
  spare : l.buf.spare + l.bit * round_length g.W.Width.BITS ≡ l.fn.buf.spare;
}
