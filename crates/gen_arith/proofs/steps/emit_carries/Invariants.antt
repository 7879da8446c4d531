use Rattle.std.proofs.Common.{◌≡◌, ◌+◌, ◌*◌, [], ◌∷◌, ◌++◌, length}
use Rattle.micro_ir.specs.Steps.{micros}
use Rattle.micro_ir.specs.WorkRows.{carry_row, result_row, truth_row}
use Rattle.gen_arith.specs.Recipes.{ripple}
use Rattle.gen_arith.proofs.steps.emit_carries.Given as goal

-- the carries so far are written
abbrev pub invariant-loop-bit : goal.invariant-loop-bit
invariant-loop-bit g l = record {
  ops : l.buf.ops ≡ l.fn.buf.ops ++ micros g.W.Width.BITS (ripple g.W.Width.BITS (carry_row ∷ l.a ∷ l.b ∷ []) [] l.carries carry_row truth_row l.bit);
  spare : l.buf.spare + l.bit * (length l.carries + 2) ≡ l.fn.buf.spare;
}
