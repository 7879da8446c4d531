use Rattle.std.proofs.Common.{◌≡◌, ◌+◌, ◌++◌}
use Rattle.micro_ir.specs.Steps.{micros}
use Rattle.gen_shift.specs.Lists.{stages}
use Rattle.gen_shift.specs.Kinds.{stages_length}
use Rattle.gen_shift.proofs.stages.emit_stages.Given as goal

-- the stages so far are written
abbrev pub invariant-loop-bit : goal.invariant-loop-bit
invariant-loop-bit g l = record {
  ops : l.buf.ops ≡ l.fn.buf.ops ++ micros g.W.Width.BITS (stages l.kind l.keeps g.W.Width.BITS l.b l.bit);
  spare : l.buf.spare + stages_length l.kind l.keeps g.W.Width.BITS l.bit ≡ l.fn.buf.spare;
}
