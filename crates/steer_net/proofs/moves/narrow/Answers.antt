use Rattle.std.proofs.Common.{◌+◌, ◌-◌, ◌*◌, ◌/◌, cond, ap, ◌∙◌}
use Rattle.steer_net.specs.Network.{bit_in}
use Rattle.steer_net.specs.Moves.{rewritten, per_row, in_part}
use Rattle.steer_net.proofs.Rewritten.{wide_half}
use Rattle.steer_net.proofs.moves.narrow.Goals as goal

pub returns-clause-slices : goal.returns-clause-slices
returns-clause-slices g c =
    let s = g.P.Planes.slices c.args.p.now in
    let half = c.args.wide / 2 in
    c.rewrite.ensures.slices
    ∙ ap (λ w. rewritten c.args.to half (λ e j. cond (in_part c.args.part (per_row w s) e) (bit_in s c.args.from ((e - c.args.part * per_row w s) * w + j)) (bit_in s c.args.to (e * half + j))) s)
    (wide_half c.args.wide c.requires.wide).1
