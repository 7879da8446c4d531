use Rattle.std.proofs.Common.{◌∙◌}
use Rattle.steer_net.specs.Network.{bit_in}
use Rattle.steer_net.specs.Rows.{is_one}
use Rattle.steer_net.proofs.Rewritten.{marked_told}
use Rattle.steer_net.proofs.moves.below.Goals as goal

pub returns-clause-slices : goal.returns-clause-slices
returns-clause-slices g c =
    let s = g.P.Planes.slices c.args.p.now in
    c.write_ones.ensures.slices
    ∙ marked_told c.args.to c.args.num c.args.how (is_one c.reached.result (bit_in s 0)) s (λ e l. c.reached.ensures (bit_in s 0) e (rw (c.from.ensures, c.columns.ensures.value) l))
