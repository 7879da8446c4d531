use Rattle.std.proofs.Common.{◌≡◌, ℕ, ◌<◌, [], ◌∷◌, ◌++◌, ◌∙◌, append_assoc, arith}
use Rattle.micro_ir.specs.Steps.{micro, micros}
use Rattle.micro_ir.specs.WorkRows.{carry_row}
use Rattle.micro_ir.specs.Pieces.{above, clear}
use Rattle.gen_arith.specs.Recipes.{ripple, odd_not_on, borrow_on}
use Rattle.gen_shift.proofs.Stays.{operand-row}
use Rattle.row_sums.specs.Sums.{total_row, half_after}
use Rattle.row_sums.proofs.Fits.{three-rows}
use Rattle.gen_mul.proofs.Costs.{taking-size}
use Rattle.gen_mul.proofs.Written.{taking-list}
use Rattle.gen_mul.proofs.finish.emit_taking.Goals as goal

pub emit_clear-requires-clause-room : goal.emit_clear-requires-clause-room
emit_clear-requires-clause-room g c = let h = g.met.W.Width.least in omega (arith, taking-size g.W.Width.BITS (omega arith), c.requires.room)

pub emit_above-requires-clause-room : goal.emit_above-requires-clause-room
emit_above-requires-clause-room g c = let h = g.met.W.Width.least in omega (arith, taking-size g.W.Width.BITS (omega arith), c.requires.room, c.emit_clear.ensures.spare)

pub emit_clear-requires-2-clause-room : goal.emit_clear-requires-2-clause-room
emit_clear-requires-2-clause-room g c =
    let h = g.met.W.Width.least in omega (arith, taking-size g.W.Width.BITS (omega arith), c.requires.room, c.emit_clear.ensures.spare, c.emit_above.ensures.spare)

pub emit_ripple-requires-clause-rows : goal.emit_ripple-requires-clause-rows
emit_ripple-requires-clause-rows g c = three-rows 35 c.low_row.result c.args.addend (omega arith) c.low_row.ensures.row (operand-row c.args.addend c.requires.addend)

pub emit_ripple-requires-clause-room : goal.emit_ripple-requires-clause-room
emit_ripple-requires-clause-room g c =
    let h = g.met.W.Width.least in omega (arith, taking-size g.W.Width.BITS (omega arith), c.requires.room, c.emit_clear.ensures.spare, c.emit_above.ensures.spare, c.emit_clear-2.ensures.spare)

pub returns-clause-ops : goal.returns-clause-ops
returns-clause-ops g c =
    let w : ℕ = g.W.Width.BITS in
    let some : 0 < w = let h = g.met.W.Width.least in omega arith in
    let one : c.emit_clear.new.buf.ops ≡ c.args.buf.now.ops ++ micro w (clear w carry_row) = c.emit_clear.ensures.ops w some in
    let start : c.emit_above.new.buf.ops ≡ c.emit_clear.new.buf.ops ++ micro w (above [] (0 ∷ []) carry_row 0 0) = c.emit_above.ensures.ops in
    let two : c.emit_clear-2.new.buf.ops ≡ c.emit_above.new.buf.ops ++ micro w (clear w total_row) = c.emit_clear-2.ensures.ops w some in
    let last : c.emit_ripple.new.buf.ops ≡ c.emit_clear-2.new.buf.ops ++ micros w (ripple w (carry_row ∷ half_after w ∷ c.args.addend ∷ []) odd_not_on borrow_on carry_row total_row w) =
    rw c.low_row.ensures.role at c.emit_ripple.ensures.ops in
    last ∙ rw (two, start, one, taking-list w c.args.addend) (simp append_assoc)

pub returns-clause-spare : goal.returns-clause-spare
returns-clause-spare g c =
    let h = g.met.W.Width.least in
    omega (arith, taking-size g.W.Width.BITS (omega arith), c.emit_clear.ensures.spare, c.emit_above.ensures.spare, c.emit_clear-2.ensures.spare, c.emit_ripple.ensures.spare)
