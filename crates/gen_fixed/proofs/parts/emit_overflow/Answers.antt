use Rattle.std.proofs.Common.{◌≡◌, ℕ, ◌-◌, ◌<◌, [], ◌∷◌, ◌++◌, ◌∙◌, append_assoc, arith}
use Rattle.micro_ir.specs.Pieces.{above, clear, downs}
use Rattle.micro_ir.specs.Steps.{micro, micros}
use Rattle.row_sums.specs.Sums.{total_row}
use Rattle.gen_fixed.specs.Lists.{overflow_row, overflow_on}
use Rattle.gen_fixed.proofs.Written.{overflowing-list}
use Rattle.gen_fixed.proofs.parts.emit_overflow.Goals as goal

pub returns-clause-ops : goal.returns-clause-ops
returns-clause-ops g c =
    let w : ℕ = g.W.Width.BITS in
    let some : 0 < w = let h = g.met.W.Width.least in omega arith in
    let a = c.args.a in
    let b = c.args.b in
    let one : c.emit_clear.new.buf.ops ≡ c.args.buf.now.ops ++ micro w (clear w overflow_row) = c.emit_clear.ensures.ops w some in
    let two : c.emit_above.new.buf.ops ≡ c.emit_clear.new.buf.ops ++ micro w (above (a ∷ b ∷ total_row ∷ []) (overflow_on c.args.sub) overflow_row (w - 1) 0) =
    rw (c.overflow.ensures, c.BITS.ensures) at c.emit_above.ensures.ops in
    let last : c.emit_downs.new.buf.ops ≡ c.emit_above.new.buf.ops ++ micros w (downs overflow_row (w - 1)) = rw c.BITS.ensures at c.emit_downs.ensures.ops in
    last ∙ rw (two, one, overflowing-list c.args.sub w a b) (simp append_assoc)
