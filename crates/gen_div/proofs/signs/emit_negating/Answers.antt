use Rattle.std.proofs.Common.{◌≡◌, ℕ, ◌<◌, [], ◌∷◌, ◌++◌, ◌∙◌, append_assoc, arith}
use Rattle.micro_ir.specs.Steps.{micro, micros}
use Rattle.micro_ir.specs.WorkRows.{carry_row, broadcast_row}
use Rattle.micro_ir.specs.Pieces.{above, clear}
use Rattle.gen_arith.specs.Recipes.{ripple, odd_on}
use Rattle.row_sums.proofs.Fits.{three-rows}
use Rattle.gen_div.specs.Lists.{negate_on}
use Rattle.gen_div.proofs.Costs.{negating-size}
use Rattle.gen_div.proofs.Written.{negating-list}
use Rattle.gen_div.proofs.signs.emit_negating.Goals as goal

pub emit_clear-requires-clause-room : goal.emit_clear-requires-clause-room
emit_clear-requires-clause-room g c = let h = g.met.W.Width.least in omega (arith, negating-size g.W.Width.BITS (omega arith), c.requires.room)

pub emit_above-requires-clause-room : goal.emit_above-requires-clause-room
emit_above-requires-clause-room g c = let h = g.met.W.Width.least in omega (arith, negating-size g.W.Width.BITS (omega arith), c.requires.room, c.emit_clear.ensures.spare)

pub emit_clear-requires-2-clause-room : goal.emit_clear-requires-2-clause-room
emit_clear-requires-2-clause-room g c =
    let h = g.met.W.Width.least in omega (arith, negating-size g.W.Width.BITS (omega arith), c.requires.room, c.emit_clear.ensures.spare, c.emit_above.ensures.spare)

pub emit_ripple-requires-clause-rows : goal.emit_ripple-requires-clause-rows
emit_ripple-requires-clause-rows g c = three-rows c.args.x 37 35 c.requires.x (omega arith) (omega arith)

pub emit_ripple-requires-clause-room : goal.emit_ripple-requires-clause-room
emit_ripple-requires-clause-room g c =
    let h = g.met.W.Width.least in omega (arith, negating-size g.W.Width.BITS (omega arith), c.requires.room, c.emit_clear.ensures.spare, c.emit_above.ensures.spare, c.emit_clear-2.ensures.spare)

pub returns-clause-ops : goal.returns-clause-ops
returns-clause-ops g c =
    let w : ℕ = g.W.Width.BITS in
    let some : 0 < w = let h = g.met.W.Width.least in omega arith in
    let one : c.emit_clear.new.buf.ops ≡ c.args.buf.now.ops ++ micro w (clear w carry_row) = c.emit_clear.ensures.ops w some in
    let start : c.emit_above.new.buf.ops ≡ c.emit_clear.new.buf.ops ++ micro w (above (broadcast_row ∷ []) (1 ∷ []) carry_row 0 0) = c.emit_above.ensures.ops in
    let two : c.emit_clear-2.new.buf.ops ≡ c.emit_above.new.buf.ops ++ micro w (clear w c.args.out) = c.emit_clear-2.ensures.ops w some in
    let last : c.emit_ripple.new.buf.ops ≡ c.emit_clear-2.new.buf.ops ++ micros w (ripple w (c.args.x ∷ broadcast_row ∷ carry_row ∷ []) odd_on negate_on carry_row c.args.out w) = c.emit_ripple.ensures.ops in
    last ∙ rw (two, start, one, negating-list w c.args.x c.args.out) (simp append_assoc)

pub returns-clause-spare : goal.returns-clause-spare
returns-clause-spare g c =
    let h = g.met.W.Width.least in
    omega (arith, negating-size g.W.Width.BITS (omega arith), c.emit_clear.ensures.spare, c.emit_above.ensures.spare, c.emit_clear-2.ensures.spare, c.emit_ripple.ensures.spare)
