use Rattle.std.proofs.Common.{◌≡◌, ◌-◌, ◌<◌, false, [], ◌∷◌, ◌++◌, ◌∙◌, append_assoc, arith}
use Rattle.micro_ir.specs.Pieces.{below, clear}
use Rattle.micro_ir.specs.Steps.{micro, micros}
use Rattle.gen_shift.specs.Rows.{last_role, more_row}
use Rattle.row_sums.specs.Sums.{half_after}
use Rattle.row_sums.proofs.Fits.{one-row, one-pass}
use Rattle.gen_mul.specs.Fractions.{lower}
use Rattle.gen_mul.proofs.FractionLists.{left-list}
use Rattle.gen_mul.proofs.fractions.emit_left_over.Goals as goal

pub emit_below-requires-clause-rows : goal.emit_below-requires-clause-rows
emit_below-requires-clause-rows g c = one-row c.low_row.result c.low_row.ensures.row

pub emit_below-requires-clause-room : goal.emit_below-requires-clause-room
emit_below-requires-clause-room g c =
    let h = g.met.W.Width.least in
    let one = one-pass false (g.W.Width.BITS - 2) (omega arith) in
    rw c.BITS.ensures (omega (arith, one, h, c.requires.room, c.emit_clear.ensures.spare))

pub returns-clause-ops : goal.returns-clause-ops
returns-clause-ops g c =
    let w = g.W.Width.BITS in
    let some : 0 < w = let h = g.met.W.Width.least in omega arith in
    let first : c.emit_clear.new.buf.ops ≡ c.args.buf.now.ops ++ micro w (clear w (last_role false)) = c.emit_clear.ensures.ops w some in
    let last : c.emit_below.new.buf.ops ≡ c.emit_clear.new.buf.ops ++ micro w (below (half_after w ∷ []) (1 ∷ []) (last_role false) (w - 2) (w - 2)) =
    rw (c.low_row.ensures.role, c.BITS.ensures) at c.emit_below.ensures.ops in
    let more : c.emit_clear-2.new.buf.ops ≡ c.emit_below.new.buf.ops ++ micro w (clear w more_row) = c.emit_clear-2.ensures.ops w some in
    let rest : c.emit_lower.new.buf.ops ≡ c.emit_clear-2.new.buf.ops ++ micros w (lower w (w - 2)) = rw c.BITS.ensures at c.emit_lower.ensures.ops in
    rest ∙ rw (more, last, first, left-list w) (simp append_assoc)
