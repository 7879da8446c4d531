use Rattle.std.proofs.Common.{◌≡◌, ℕ, ◌<◌, ◌++◌, ◌∙◌, append_assoc, arith}
use Rattle.micro_ir.specs.Pieces.{clear}
use Rattle.micro_ir.specs.Steps.{micro, micros}
use Rattle.micro_ir.specs.WorkRows.{carry_row}
use Rattle.gen_arith.specs.Recipes.{ripple, odd_on}
use Rattle.row_sums.specs.Sums.{total_row}
use Rattle.gen_fixed.specs.Lists.{operands, carries_of}
use Rattle.gen_fixed.proofs.Written.{sums-list}
use Rattle.gen_fixed.proofs.parts.emit_digits.Goals as goal

pub returns-clause-ops : goal.returns-clause-ops
returns-clause-ops g c =
    let w : ℕ = g.W.Width.BITS in
    let some : 0 < w = let h = g.met.W.Width.least in omega arith in
    let a = c.args.a in
    let b = c.args.b in
    let one : c.emit_clear.new.buf.ops ≡ c.args.buf.now.ops ++ micro w (clear w carry_row) = c.emit_clear.ensures.ops w some in
    let two : c.emit_clear-2.new.buf.ops ≡ c.emit_clear.new.buf.ops ++ micro w (clear w total_row) = c.emit_clear-2.ensures.ops w some in
    let sum : c.emit_ripple.new.buf.ops ≡ c.emit_clear-2.new.buf.ops ++ micros w (ripple w (operands a b) odd_on (carries_of c.args.sub) carry_row total_row w) =
    rw c.carries.ensures at c.emit_ripple.ensures.ops in
    sum ∙ rw (two, one, sums-list c.args.sub w a b) (simp append_assoc)
