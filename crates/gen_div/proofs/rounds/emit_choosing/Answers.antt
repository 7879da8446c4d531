use Rattle.std.proofs.Common.{◌≡◌, ℕ, true, ◌-◌, ◌<◌, [], ◌∷◌, ◌++◌, ◌∙◌, append_assoc, arith}
use Rattle.micro_ir.specs.Steps.{micro, micros}
use Rattle.micro_ir.specs.WorkRows.{broadcast_row, truth_row}
use Rattle.micro_ir.specs.Pieces.{above, clear, downs, everywhere}
use Rattle.gen_arith.specs.Recipes.{first_on}
use Rattle.row_sums.specs.Sums.{total_row}
use Rattle.gen_div.specs.Lists.{rest_row, moved_row, borrow_row, fits_on}
use Rattle.gen_div.proofs.Written.{choosing-list}
use Rattle.gen_div.proofs.rounds.emit_choosing.Goals as goal

pub returns-clause-ops : goal.returns-clause-ops
returns-clause-ops g c =
    let w : ℕ = g.W.Width.BITS in
    let some : 0 < w = let h = g.met.W.Width.least in omega arith in
    let r = c.args.next in
    let one : c.emit_clear.new.buf.ops ≡ c.args.buf.now.ops ++ micro w (clear w broadcast_row) = c.emit_clear.ensures.ops w some in
    let fit : c.emit_above.new.buf.ops ≡ c.emit_clear.new.buf.ops ++ micro w (above (truth_row ∷ borrow_row ∷ []) fits_on broadcast_row (w - 1) 0) = rw c.BITS.ensures at c.emit_above.ensures.ops in
    let down : c.emit_downs.new.buf.ops ≡ c.emit_above.new.buf.ops ++ micros w (downs broadcast_row (w - 1)) = rw c.BITS.ensures at c.emit_downs.ensures.ops in
    let two : c.emit_clear-2.new.buf.ops ≡ c.emit_downs.new.buf.ops ++ micro w (clear w rest_row) = c.emit_clear-2.ensures.ops w some in
    let merge : c.emit_everywhere.new.buf.ops ≡ c.emit_clear-2.new.buf.ops ++ micro w (everywhere w (broadcast_row ∷ total_row ∷ moved_row ∷ []) first_on rest_row true) = c.emit_everywhere.ensures.ops w some in
    let last : c.emit_above-2.new.buf.ops ≡ c.emit_everywhere.new.buf.ops ++ micro w (above (broadcast_row ∷ []) (1 ∷ []) r 0 0) = c.emit_above-2.ensures.ops in
    last ∙ rw (merge, two, down, fit, one, choosing-list w r) (simp append_assoc)
