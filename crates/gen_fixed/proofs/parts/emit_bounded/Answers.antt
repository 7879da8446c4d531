use Rattle.std.proofs.Common.{◌≡◌, ℕ, ◌-◌, ◌<◌, [], ◌∷◌, ◌++◌, ◌∙◌, append_assoc, arith}
use Rattle.micro_ir.specs.Pieces.{above, clear, ranged}
use Rattle.micro_ir.specs.Steps.{micro}
use Rattle.micro_ir.specs.WorkRows.{broadcast_row}
use Rattle.gen_fixed.specs.Lists.{overflow_row, low_range}
use Rattle.gen_fixed.proofs.Written.{bounded-list}
use Rattle.gen_fixed.proofs.parts.emit_bounded.Goals as goal

pub returns-clause-ops : goal.returns-clause-ops
returns-clause-ops g c =
    let w : ℕ = g.L.Width.BITS in
    let some : 0 < w = let h = g.met.L.Width.least in omega arith in
    let row = c.args.row in
    let out = c.args.out in
    let bits = c.args.bits in
    let one : c.emit_clear.new.buf.ops ≡ c.args.buf.now.ops ++ micro w (clear w out) = c.emit_clear.ensures.ops w some in
    let two : c.emit_rows.new.buf.ops ≡ c.emit_clear.new.buf.ops ++ micro w (ranged (overflow_row ∷ broadcast_row ∷ row ∷ []) (1 ∷ 4 ∷ 5 ∷ 6 ∷ []) out (low_range (bits - 1))) = c.emit_rows.ensures.ops in
    let last : c.emit_above.new.buf.ops ≡ c.emit_rows.new.buf.ops ++ micro w (above (overflow_row ∷ broadcast_row ∷ row ∷ []) (3 ∷ 4 ∷ 6 ∷ 7 ∷ []) out (bits - 1) 0) = c.emit_above.ensures.ops in
    last ∙ rw (two, one, bounded-list w bits row out) (simp append_assoc)
