use Rattle.std.proofs.Common.{false, ◌∙◌, ◌-◌, append_assoc, arith}
use Rattle.row_sums.proofs.Fits.{one-row, one-pass}
use Rattle.row_sums.proofs.Written.{doubled-list}
use Rattle.row_sums.proofs.moves.emit_doubled.Goals as goal

pub emit_below-requires-clause-rows : goal.emit_below-requires-clause-rows
emit_below-requires-clause-rows g c = one-row c.args.other c.requires.other

pub emit_below-requires-clause-room : goal.emit_below-requires-clause-room
emit_below-requires-clause-room g c =
    let h = g.met.W.Width.least in
    let one = one-pass false (c.BITS.result - 1) (omega (arith, c.BITS.ensures)) in
    omega (arith, one, c.emit_moved.ensures.spare, c.requires.room)

pub returns-clause-ops : goal.returns-clause-ops
returns-clause-ops g c =
    (rw c.BITS.ensures at c.emit_below.ensures.ops) ∙ rw (c.emit_moved.ensures.ops, doubled-list g.W.Width.BITS c.args.from c.args.out c.args.other) (simp append_assoc)

pub returns-clause-spare : goal.returns-clause-spare
returns-clause-spare g c =
    let h = g.met.W.Width.least in
    let one = one-pass false (c.BITS.result - 1) (omega (arith, c.BITS.ensures)) in
    omega (arith, one, c.emit_below.ensures.spare, c.emit_moved.ensures.spare)
