use Rattle.std.proofs.Common.{◌≡◌, ℕ, ◌<◌, ◌++◌, ◌∙◌, append_assoc, arith}
use Rattle.micro_ir.specs.Steps.{micro}
use Rattle.micro_ir.specs.Pieces.{clear}
use Rattle.gen_shift.specs.Lists.{slide}
use Rattle.gen_shift.proofs.Fits.{move-stays, move-pass}
use Rattle.row_sums.proofs.Fits.{one-row}
use Rattle.row_sums.proofs.Written.{once-list}
use Rattle.row_sums.proofs.moves.emit_moved.Goals as goal

pub emit_rows-requires-clause-rows : goal.emit_rows-requires-clause-rows
emit_rows-requires-clause-rows g c = one-row c.args.from c.requires.from

pub emit_rows-requires-clause-range : goal.emit_rows-requires-clause-range
emit_rows-requires-clause-range g c = let h = g.met.W.Width.least in rw (c.once.ensures, c.BITS.ensures) (move-stays g.W.Width.BITS c.args.up 1 (omega arith))

pub emit_rows-requires-clause-room : goal.emit_rows-requires-clause-room
emit_rows-requires-clause-room g c =
    let one = move-pass c.BITS.result c.args.up 1 (omega arith) in
    rw c.once.ensures (omega (arith, one, c.requires.room, c.emit_clear.ensures.spare))

pub returns-clause-ops : goal.returns-clause-ops
returns-clause-ops g c =
    let w : ℕ = g.W.Width.BITS in
    let some : 0 < w = let h = g.met.W.Width.least in omega arith in
    let cleared : c.emit_clear.new.buf.ops ≡ c.args.buf.now.ops ++ micro w (clear w c.args.out) = c.emit_clear.ensures.ops w some in
    let last : c.emit_rows.new.buf.ops ≡ c.emit_clear.new.buf.ops ++ micro w (slide w c.args.up c.args.from c.args.out 1) = rw (c.once.ensures, c.BITS.ensures) at c.emit_rows.ensures.ops in
    last ∙ rw (cleared, once-list w c.args.up c.args.from c.args.out) (simp append_assoc)

pub returns-clause-spare : goal.returns-clause-spare
returns-clause-spare g c =
    let one = move-pass c.BITS.result c.args.up 1 (omega arith) in
    let spare = rw c.once.ensures at c.emit_rows.ensures.spare in
    omega (arith, one, spare, c.emit_clear.ensures.spare)
