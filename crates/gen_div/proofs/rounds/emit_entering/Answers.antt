use Rattle.std.proofs.Common.{◌≡◌, ℕ, true, ◌-◌, ◌<◌, [], ◌∷◌, ◌++◌, ◌∙◌, append_assoc, arith}
use Rattle.micro_ir.specs.Steps.{micro, micros}
use Rattle.micro_ir.specs.WorkRows.{truth_row}
use Rattle.micro_ir.specs.Pieces.{above, clear}
use Rattle.row_sums.specs.Sums.{doubled, shifted_once}
use Rattle.gen_div.specs.Lists.{rest_row, moved_row}
use Rattle.gen_div.proofs.Written.{entering-list}
use Rattle.gen_div.proofs.rounds.emit_entering.Goals as goal

pub returns-clause-ops : goal.returns-clause-ops
returns-clause-ops g c =
    let w : ℕ = g.W.Width.BITS in
    let some : 0 < w = let h = g.met.W.Width.least in omega arith in
    let q = c.args.former in
    let r = c.args.next in
    let bit : c.emit_doubled.new.buf.ops ≡ c.args.buf.now.ops ++ micros w (doubled w rest_row moved_row q) = c.emit_doubled.ensures.ops in
    let cleared : c.emit_clear.new.buf.ops ≡ c.emit_doubled.new.buf.ops ++ micro w (clear w truth_row) = c.emit_clear.ensures.ops w some in
    let top : c.emit_above.new.buf.ops ≡ c.emit_clear.new.buf.ops ++ micro w (above (rest_row ∷ []) (1 ∷ []) truth_row (w - 1) 0) = rw c.BITS.ensures at c.emit_above.ensures.ops in
    let last : c.emit_moved.new.buf.ops ≡ c.emit_above.new.buf.ops ++ micros w (shifted_once w true q r) = c.emit_moved.ensures.ops in
    last ∙ rw (top, cleared, bit, entering-list w q r) (simp append_assoc)
