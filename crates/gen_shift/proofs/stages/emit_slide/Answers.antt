use Rattle.std.proofs.Common.{arith}
use Rattle.gen_shift.proofs.Fits.{move-stays, move-pass}
use Rattle.gen_shift.proofs.Stays.{one-row}
use Rattle.gen_shift.proofs.stages.emit_slide.Goals as goal

pub emit_rows-requires-clause-rows : goal.emit_rows-requires-clause-rows
emit_rows-requires-clause-rows g c = one-row c.args.former c.requires.former

pub emit_rows-requires-clause-range : goal.emit_rows-requires-clause-range
emit_rows-requires-clause-range g c = rw (c.kept_bits-kept.ensures, c.BITS.ensures) (move-stays g.W.Width.BITS c.is_left.result c.args.by c.requires.by)

pub emit_rows-requires-clause-room : goal.emit_rows-requires-clause-room
emit_rows-requires-clause-room g c =
    let one = move-pass c.BITS.result c.is_left.result c.args.by c.requires.some in
    rw c.kept_bits-kept.ensures (omega (arith, one, c.requires.room))

pub returns-clause-ops : goal.returns-clause-ops
returns-clause-ops g c = rw (c.kept_bits-kept.ensures, c.is_left.ensures, c.BITS.ensures) at c.emit_rows.ensures.ops

pub returns-clause-spare : goal.returns-clause-spare
returns-clause-spare g c =
    let one = move-pass c.BITS.result c.is_left.result c.args.by c.requires.some in
    let spare = rw c.kept_bits-kept.ensures at c.emit_rows.ensures.spare in
    omega (arith, one, spare)
