use Rattle.std.proofs.Common.{arith}
use Rattle.steer_net.proofs.Spans.{below-some}
use Rattle.steer_net.proofs.ranges.count_below.Goals as goal

pub returns-else-number-from : goal.returns-else-number-from
returns-else-number-from c k = rw c.div_ceil.ensures (below-some c.args.number c.args.step c.args.bound k (omega arith) (omega (arith, c.from.ensures)))
