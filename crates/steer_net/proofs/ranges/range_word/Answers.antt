use Rattle.std.proofs.Common.{◌*◌}
use Rattle.steer_net.proofs.Spans.{word-range}
use Rattle.steer_net.proofs.ranges.range_word.Goals as goal

pub returns : goal.returns
returns c j l = word-range c.args.start c.args.end (64 * c.args.i) j _ _ l (c.below_word.ensures j l) (c.below_word-2.ensures j l)
