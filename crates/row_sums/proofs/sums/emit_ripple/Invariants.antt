use Rattle.std.proofs.Common.{◌≡◌, ◌+◌, ◌*◌, ◌++◌, length}
use Rattle.micro_ir.specs.Steps.{micros}
use Rattle.micro_ir.specs.WorkRows.{carry_row}
use Rattle.gen_arith.specs.Recipes.{ripple}
use Rattle.row_sums.proofs.sums.emit_ripple.Given as goal

-- the digits so far are written, each with the carry out of its bit
abbrev pub invariant-loop-bit : goal.invariant-loop-bit
invariant-loop-bit g l = record {
  ops : l.buf.ops ≡ l.fn.buf.ops ++ micros g.W.Width.BITS (ripple g.W.Width.BITS l.inputs l.digits l.carries carry_row l.out l.bit);
  spare : l.buf.spare + l.bit * (length l.digits + length l.carries + 3) ≡ l.fn.buf.spare;
}
