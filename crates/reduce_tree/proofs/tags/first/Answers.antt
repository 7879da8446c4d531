use Rattle.std.proofs.Common.{arith}
use Rattle.reduce_tree.proofs.FirstTags.{least_none, least_more, least_all}
use Rattle.reduce_tree.proofs.tags.first.Goals as goal

pub loop-sub-init : goal.loop-sub-init
loop-sub-init g c = least_none (g.P.Planes.slices c.args.p.now)

pub loop-sub-preserved : goal.loop-sub-preserved
loop-sub-preserved g c = rw c.lesser-least.ensures (least_more c.loop-sub.sub c.loop-sub.least c.first_in.result (g.P.Planes.slices c.args.p.now) c.loop-sub.invariant c.first_in.ensures)

pub returns : goal.returns
returns g c = least_all c.loop-sub.sub c.loop-sub.least (g.P.Planes.slices c.args.p.now) (omega arith) c.loop-sub.invariant
