use Rattle.std.proofs.Common.{◌≡◌, ℕ, ◌-◌, [], ◌++◌, ◌∙◌, append_assoc}
use Rattle.micro_ir.specs.Pieces.{broadcast}
use Rattle.micro_ir.specs.Steps.{micros}
use Rattle.micro_ir.specs.WorkRows.{result_row}
use Rattle.gen_arith.specs.Recipes.{odd_on}
use Rattle.gen_shift.proofs.Stays.{operand-row, operand-apart}
use Rattle.row_sums.specs.Sums.{total_row, sum_from}
use Rattle.gen_fixed.specs.Lists.{operands, carries_of, bounded, overflowing}
use Rattle.gen_fixed.proofs.Written.{signed-list}
use Rattle.gen_fixed.proofs.lists.emit_signed.Goals as goal

pub emit_broadcast-requires-clause-row : goal.emit_broadcast-requires-clause-row
emit_broadcast-requires-clause-row g c = operand-row c.args.a c.requires.a

pub emit_broadcast-requires-clause-apart : goal.emit_broadcast-requires-clause-apart
emit_broadcast-requires-clause-apart g c = operand-apart c.args.a c.requires.a

pub returns-clause-ops : goal.returns-clause-ops
returns-clause-ops g c =
    let w : ℕ = g.W.Width.BITS in
    let sub = c.args.sub in
    let sums : c.emit_digits.new.buf.ops ≡ c.args.buf.now.ops ++ micros w (sum_from w [] [] (operands c.args.a c.args.b) odd_on (carries_of sub) total_row) = c.emit_digits.ensures.ops in
    let flag : c.emit_overflow.new.buf.ops ≡ c.emit_digits.new.buf.ops ++ micros w (overflowing sub w c.args.a c.args.b) = c.emit_overflow.ensures.ops in
    let cast : c.emit_broadcast.new.buf.ops ≡ c.emit_overflow.new.buf.ops ++ micros w (broadcast w c.args.a (w - 1)) = rw c.BITS-width.ensures at c.emit_broadcast.ensures.ops in
    let last : c.emit_bounded.new.buf.ops ≡ c.emit_broadcast.new.buf.ops ++ micros w (bounded w w total_row result_row) = rw c.BITS-width.ensures at c.emit_bounded.ensures.ops in
    last ∙ rw (cast, flag, sums, signed-list sub w c.args.a c.args.b) (simp append_assoc)
