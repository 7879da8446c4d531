use Rattle.std.proofs.Common.{◌≡◌, ℕ, true, ◌-◌, ◌<◌, [], ◌∷◌, ◌++◌, ◌∙◌, append_assoc, arith}
use Rattle.micro_ir.specs.Pieces.{everywhere, clear, downs}
use Rattle.micro_ir.specs.Steps.{micro, micros}
use Rattle.micro_ir.specs.WorkRows.{result_row, truth_row}
use Rattle.row_sums.specs.Sums.{total_row}
use Rattle.gen_fixed.specs.Lists.{carries_of, beyond, bound_on}
use Rattle.gen_fixed.proofs.Written.{unsigned-list}
use Rattle.gen_fixed.proofs.lists.emit_unsigned.Goals as goal

pub returns-clause-ops : goal.returns-clause-ops
returns-clause-ops g c =
    let w : ℕ = g.W.Width.BITS in
    let some : 0 < w = let h = g.met.W.Width.least in omega arith in
    let sub = c.args.sub in
    let first : c.emit_beyond.new.buf.ops ≡ c.args.buf.now.ops ++ micros w (beyond (carries_of sub) (carries_of sub) w c.args.a c.args.b) = c.emit_beyond.ensures.ops in
    let spread : c.emit_downs.new.buf.ops ≡ c.emit_beyond.new.buf.ops ++ micros w (downs truth_row (w - 1)) = rw c.BITS.ensures at c.emit_downs.ensures.ops in
    let one : c.emit_clear.new.buf.ops ≡ c.emit_downs.new.buf.ops ++ micro w (clear w result_row) = c.emit_clear.ensures.ops w some in
    let last : c.emit_everywhere.new.buf.ops ≡ c.emit_clear.new.buf.ops ++ micro w (everywhere w (total_row ∷ truth_row ∷ []) (bound_on sub) result_row true) =
    rw c.bound.ensures at (c.emit_everywhere.ensures.ops w some) in
    last ∙ rw (one, spread, first, unsigned-list sub w c.args.a c.args.b) (simp append_assoc)
