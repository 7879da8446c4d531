use Rattle.std.proofs.Common.{◌≡◌, ◌+◌, ◌-◌, ◌*◌, ◌++◌}
use Rattle.micro_ir.specs.Steps.{micros}
use Rattle.gen_mul.specs.Fractions.{lower}
use Rattle.gen_mul.proofs.fractions.emit_lower.Given as goal

-- the bits so far are read
abbrev pub invariant-loop-bit : goal.invariant-loop-bit
invariant-loop-bit g l = record {
  ops : l.buf.ops ≡ l.fn.buf.ops ++ micros g.W.Width.BITS (lower g.W.Width.BITS l.bit);
  spare : l.buf.spare + (3 * l.bit - 1) ≡ l.fn.buf.spare;
}
