use Rattle.std.proofs.Common.{◌≡◌, ℕ, ◌-◌, ◌<◌, ◌++◌, ◌∙◌, refl, append_assoc, arith}
use Rattle.micro_ir.specs.Steps.{micro, micros}
use Rattle.micro_ir.specs.WorkRows.{carry_row}
use Rattle.micro_ir.specs.Pieces.{broadcast, clear}
use Rattle.gen_arith.specs.Recipes.{ripple}
use Rattle.gen_shift.proofs.Stays.{operand-row}
use Rattle.row_sums.proofs.Fits.{four-rows}
use Rattle.row_sums.proofs.Kept.{differ}
use Rattle.gen_mul.specs.Lists.{gated, gated_sum_on, gated_borrow_on}
use Rattle.gen_mul.proofs.Products.{product_works}
use Rattle.gen_mul.proofs.Families.{operand-free}
use Rattle.gen_mul.proofs.Costs.{correcting-size}
use Rattle.gen_mul.proofs.Written.{correcting-list}
use Rattle.gen_mul.proofs.finish.emit_correcting.Goals as goal

pub emit_broadcast-requires-clause-row : goal.emit_broadcast-requires-clause-row
emit_broadcast-requires-clause-row g c = operand-row c.args.y c.requires.y

pub emit_broadcast-requires-clause-apart : goal.emit_broadcast-requires-clause-apart
emit_broadcast-requires-clause-apart g c = differ c.args.y 37 product_works (operand-free c.args.y c.requires.y) refl

pub emit_broadcast-requires-clause-room : goal.emit_broadcast-requires-clause-room
emit_broadcast-requires-clause-room g c = let h = g.met.W.Width.least in omega (arith, correcting-size g.W.Width.BITS (omega arith), c.requires.room)

pub emit_clear-requires-clause-room : goal.emit_clear-requires-clause-room
emit_clear-requires-clause-room g c = let h = g.met.W.Width.least in omega (arith, correcting-size g.W.Width.BITS (omega arith), c.requires.room, c.emit_broadcast.ensures.spare)

pub emit_clear-requires-2-clause-room : goal.emit_clear-requires-2-clause-room
emit_clear-requires-2-clause-room g c =
    let h = g.met.W.Width.least in omega (arith, correcting-size g.W.Width.BITS (omega arith), c.requires.room, c.emit_broadcast.ensures.spare, c.emit_clear.ensures.spare)

pub emit_ripple-requires-clause-rows : goal.emit_ripple-requires-clause-rows
emit_ripple-requires-clause-rows g c = four-rows 35 c.args.high c.args.x 37 (omega arith) c.requires.high (operand-row c.args.x c.requires.x) (omega arith)

pub emit_ripple-requires-clause-room : goal.emit_ripple-requires-clause-room
emit_ripple-requires-clause-room g c =
    let h = g.met.W.Width.least in omega (arith, correcting-size g.W.Width.BITS (omega arith), c.requires.room, c.emit_broadcast.ensures.spare, c.emit_clear.ensures.spare, c.emit_clear-2.ensures.spare)

pub returns-clause-ops : goal.returns-clause-ops
returns-clause-ops g c =
    let w : ℕ = g.W.Width.BITS in
    let some : 0 < w = let h = g.met.W.Width.least in omega arith in
    let cast : c.emit_broadcast.new.buf.ops ≡ c.args.buf.now.ops ++ micros w (broadcast w c.args.y (w - 1)) = rw c.BITS.ensures at c.emit_broadcast.ensures.ops in
    let one : c.emit_clear.new.buf.ops ≡ c.emit_broadcast.new.buf.ops ++ micro w (clear w carry_row) = c.emit_clear.ensures.ops w some in
    let two : c.emit_clear-2.new.buf.ops ≡ c.emit_clear.new.buf.ops ++ micro w (clear w c.args.out) = c.emit_clear-2.ensures.ops w some in
    let last : c.emit_ripple.new.buf.ops ≡ c.emit_clear-2.new.buf.ops ++ micros w (ripple w (gated c.args.high c.args.x) gated_sum_on gated_borrow_on carry_row c.args.out w) = c.emit_ripple.ensures.ops in
    last ∙ rw (two, one, cast, correcting-list w c.args.x c.args.y c.args.high c.args.out) (simp append_assoc)

pub returns-clause-spare : goal.returns-clause-spare
returns-clause-spare g c =
    let h = g.met.W.Width.least in
    omega (arith, correcting-size g.W.Width.BITS (omega arith), c.emit_broadcast.ensures.spare, c.emit_clear.ensures.spare, c.emit_clear-2.ensures.spare, c.emit_ripple.ensures.spare)
