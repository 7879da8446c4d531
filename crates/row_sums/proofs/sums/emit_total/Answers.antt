use Rattle.std.proofs.Common.{◌≡◌, ℕ, ◌-◌, ◌<◌, ◌++◌, ◌∙◌, append_assoc, arith}
use Rattle.micro_ir.specs.Steps.{micro, micros}
use Rattle.micro_ir.specs.WorkRows.{carry_row}
use Rattle.micro_ir.specs.Pieces.{above, clear}
use Rattle.gen_arith.specs.Recipes.{ripple}
use Rattle.row_sums.proofs.Written.{total-list}
use Rattle.row_sums.proofs.sums.emit_total.Goals as goal

pub returns-clause-ops : goal.returns-clause-ops
returns-clause-ops g c =
    let w : ℕ = g.W.Width.BITS in
    let some : 0 < w = let h = g.met.W.Width.least in omega arith in
    let inputs = c.args.inputs.now in
    let digits = c.args.digits.now in
    let carries = c.args.carries.now in
    let one : c.emit_clear.new.buf.ops ≡ c.args.buf.now.ops ++ micro w (clear w carry_row) = c.emit_clear.ensures.ops w some in
    let two : c.emit_clear-2.new.buf.ops ≡ c.emit_clear.new.buf.ops ++ micro w (clear w c.args.out) = c.emit_clear-2.ensures.ops w some in
    let three : c.emit_clear-3.new.buf.ops ≡ c.emit_clear-2.new.buf.ops ++ micro w (clear w c.args.top) = c.emit_clear-3.ensures.ops w some in
    let sum : c.emit_ripple.new.buf.ops ≡ c.emit_clear-3.new.buf.ops ++ micros w (ripple w inputs digits carries carry_row c.args.out w) = c.emit_ripple.ensures.ops in
    let last : c.emit_above.new.buf.ops ≡ c.emit_ripple.new.buf.ops ++ micro w (above inputs carries c.args.top (w - 1) 0) = rw c.BITS.ensures at c.emit_above.ensures.ops in
    last ∙ rw (sum, three, two, one, total-list w inputs digits carries c.args.out c.args.top) (simp append_assoc)
