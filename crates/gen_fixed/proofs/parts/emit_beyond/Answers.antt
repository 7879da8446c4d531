use Rattle.std.proofs.Common.{◌≡◌, ℕ, ◌-◌, ◌<◌, ◌++◌, ◌∙◌, append_assoc, arith}
use Rattle.micro_ir.specs.Pieces.{above, clear}
use Rattle.micro_ir.specs.Steps.{micro, micros}
use Rattle.micro_ir.specs.WorkRows.{carry_row, truth_row}
use Rattle.gen_arith.specs.Recipes.{ripple, odd_on}
use Rattle.row_sums.specs.Sums.{total_row}
use Rattle.gen_fixed.specs.Lists.{operands, carries_of, beyond_on}
use Rattle.gen_fixed.proofs.Written.{beyond-list}
use Rattle.gen_fixed.proofs.parts.emit_beyond.Goals as goal

pub returns-clause-ops : goal.returns-clause-ops
returns-clause-ops g c =
    let w : ℕ = g.W.Width.BITS in
    let some : 0 < w = let h = g.met.W.Width.least in omega arith in
    let a = c.args.a in
    let b = c.args.b in
    let carries = carries_of c.args.sub in
    let last = beyond_on c.args.sign c.args.sub in
    let one : c.emit_clear.new.buf.ops ≡ c.args.buf.now.ops ++ micro w (clear w carry_row) = c.emit_clear.ensures.ops w some in
    let two : c.emit_clear-2.new.buf.ops ≡ c.emit_clear.new.buf.ops ++ micro w (clear w total_row) = c.emit_clear-2.ensures.ops w some in
    let three : c.emit_clear-3.new.buf.ops ≡ c.emit_clear-2.new.buf.ops ++ micro w (clear w truth_row) = c.emit_clear-3.ensures.ops w some in
    let sum : c.emit_ripple.new.buf.ops ≡ c.emit_clear-3.new.buf.ops ++ micros w (ripple w (operands a b) odd_on carries carry_row total_row w) =
    rw c.carries.ensures at c.emit_ripple.ensures.ops in
    let top : c.emit_above.new.buf.ops ≡ c.emit_ripple.new.buf.ops ++ micro w (above (operands a b) last truth_row (w - 1) 0) =
    rw (c.beyond.ensures, c.BITS.ensures) at c.emit_above.ensures.ops in
    top ∙ rw (sum, three, two, one, beyond-list carries last w a b) (simp append_assoc)
