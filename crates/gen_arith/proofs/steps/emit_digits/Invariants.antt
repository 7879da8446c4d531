use Rattle.std.proofs.Common.{◌≡◌, ◌+◌, ◌*◌, [], ◌∷◌, ◌++◌}
use Rattle.micro_ir.specs.Steps.{micros}
use Rattle.micro_ir.specs.WorkRows.{carry_row, result_row, truth_row}
use Rattle.gen_arith.specs.Recipes.{ripple}
use Rattle.gen_arith.proofs.steps.emit_digits.Given as goal

-- the digits so far are written, each with the carry out of its bit
abbrev pub invariant-loop-bit : goal.invariant-loop-bit
invariant-loop-bit g l = record {
  ops : l.buf.ops ≡ l.fn.buf.ops ++ micros g.W.Width.BITS (ripple g.W.Width.BITS (carry_row ∷ l.a ∷ l.b ∷ []) l.digits l.carries carry_row result_row l.bit);
  spare : l.buf.spare + 11 * l.bit ≡ l.fn.buf.spare;
}
