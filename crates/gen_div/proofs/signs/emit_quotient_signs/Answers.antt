use Rattle.std.proofs.Common.{◌≡◌, ℕ, ◌-◌, ◌<◌, ◌++◌, ◌∙◌, append_assoc, arith}
use Rattle.micro_ir.specs.Steps.{micro, micros}
use Rattle.micro_ir.specs.WorkRows.{broadcast_row}
use Rattle.micro_ir.specs.Pieces.{clear, downs}
use Rattle.row_sums.proofs.Fits.{three-rows}
use Rattle.gen_div.specs.Lists.{nonzero_row, gathering, quotient_sign}
use Rattle.gen_div.proofs.Families.{signed-row}
use Rattle.gen_div.proofs.Written.{signs-list}
use Rattle.gen_div.proofs.signs.emit_quotient_signs.Goals as goal

pub emit_above-requires-clause-rows : goal.emit_above-requires-clause-rows
emit_above-requires-clause-rows g c = three-rows c.args.a c.args.b 53 (signed-row c.args.a c.requires.a) (signed-row c.args.b c.requires.b) (omega arith)

pub returns-clause-ops : goal.returns-clause-ops
returns-clause-ops g c =
    let w : ℕ = g.W.Width.BITS in
    let some : 0 < w = let h = g.met.W.Width.least in omega arith in
    let a = c.args.a in
    let b = c.args.b in
    let one : c.emit_clear.new.buf.ops ≡ c.args.buf.now.ops ++ micro w (clear w nonzero_row) = c.emit_clear.ensures.ops w some in
    let gathered : c.emit_gathering.new.buf.ops ≡ c.emit_clear.new.buf.ops ++ micros w (gathering nonzero_row b (w - 1)) = c.emit_gathering.ensures.ops in
    let two : c.emit_clear-2.new.buf.ops ≡ c.emit_gathering.new.buf.ops ++ micro w (clear w broadcast_row) = c.emit_clear-2.ensures.ops w some in
    let sign : c.emit_above.new.buf.ops ≡ c.emit_clear-2.new.buf.ops ++ micro w (quotient_sign w a b) = rw c.BITS.ensures at c.emit_above.ensures.ops in
    let last : c.emit_downs.new.buf.ops ≡ c.emit_above.new.buf.ops ++ micros w (downs broadcast_row (w - 1)) = rw c.BITS.ensures at c.emit_downs.ensures.ops in
    last ∙ rw (sign, two, gathered, one, signs-list w a b) (simp append_assoc)
