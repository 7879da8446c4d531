use Rattle.std.proofs.Common.{◌∙◌, append_assoc}
use Rattle.row_sums.proofs.Fits.{one-row}
use Rattle.row_sums.proofs.Written.{halved-list}
use Rattle.row_sums.proofs.moves.emit_halved.Goals as goal

pub emit_above-requires-clause-rows : goal.emit_above-requires-clause-rows
emit_above-requires-clause-rows g c = one-row c.args.other c.requires.other

pub returns-clause-ops : goal.returns-clause-ops
returns-clause-ops g c =
    c.emit_above.ensures.ops ∙ rw (c.emit_moved.ensures.ops, halved-list g.W.Width.BITS c.args.from c.args.out c.args.other c.args.bit c.args.times) (simp append_assoc)
