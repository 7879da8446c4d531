use Rattle.std.proofs.Common.{◌∙◌}
use Rattle.steer_net.proofs.Mask.{by_words, by_nothing, differ, agree}
use Rattle.steer_net.proofs.columns.write_over_mask.Goals as goal
use Rattle.steer_net.proofs.columns.write_over_mask.Goals.{then-ones, else-ones}

pub returns-clause-slices : goal.returns-clause-slices
returns-clause-slices g c =
    let s = g.P.Planes.slices c.args.p.now in
    let ones = c.args.ones in
    c.write_row.ensures.slices ∙ elim c.if-ones.branch [
      | then-ones w ↦
          by_words ones c.args.row c.args.width c.args.first c.if-ones.mask s c.requires.width (c.requires.mask (differ ones.on ones.off w.if-ones.true)) (λ e l. rw w.mask-is (w.read_row.ensures e l))
      | else-ones w ↦ by_nothing ones c.args.row c.args.width c.args.first c.if-ones.mask s (agree ones.on ones.off w.if-ones.false)
    ]
