use Rattle.std.proofs.Common.{◌≡◌, ℕ, true, false, ◌<◌, [], ◌∷◌, ◌++◌, ◌∙◌, append_assoc, arith}
use Rattle.micro_ir.specs.Steps.{micro, micros}
use Rattle.micro_ir.specs.Pieces.{clear, everywhere}
use Rattle.gen_shift.proofs.Stays.{operand-row}
use Rattle.row_sums.specs.Sums.{half_role}
use Rattle.row_sums.proofs.Fits.{one-row}
use Rattle.gen_div.specs.Lists.{rest_row, division_rounds}
use Rattle.gen_div.proofs.Written.{dividing-list}
use Rattle.gen_div.proofs.rounds.emit_dividing.Goals as goal

pub emit_everywhere-requires-clause-rows : goal.emit_everywhere-requires-clause-rows
emit_everywhere-requires-clause-rows g c = one-row c.args.a (operand-row c.args.a c.requires.a)

pub returns-clause-ops : goal.returns-clause-ops
returns-clause-ops g c =
    let w : ℕ = g.W.Width.BITS in
    let some : 0 < w = let h = g.met.W.Width.least in omega arith in
    let a = c.args.a in
    let one : c.emit_clear.new.buf.ops ≡ c.args.buf.now.ops ++ micro w (clear w rest_row) = c.emit_clear.ensures.ops w some in
    let two : c.emit_clear-2.new.buf.ops ≡ c.emit_clear.new.buf.ops ++ micro w (clear w (half_role false)) = c.emit_clear-2.ensures.ops w some in
    let copied : c.emit_everywhere.new.buf.ops ≡ c.emit_clear-2.new.buf.ops ++ micro w (everywhere w (a ∷ []) (1 ∷ []) (half_role false) true) = c.emit_everywhere.ensures.ops w some in
    let last : c.emit_rounds.new.buf.ops ≡ c.emit_everywhere.new.buf.ops ++ micros w (division_rounds w c.args.b w) = c.emit_rounds.ensures.ops in
    last ∙ rw (copied, two, one, dividing-list w a c.args.b) (simp append_assoc)
