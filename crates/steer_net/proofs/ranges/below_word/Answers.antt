use Rattle.std.proofs.Common.{◌-◌, ◌*◌, arith}
use Rattle.steer_net.proofs.Spans.{word-all, word-some}
use Rattle.steer_net.proofs.ranges.below_word.Goals as goal

pub returns-then-end-base-ge-WORD_BITS : goal.returns-then-end-base-ge-WORD_BITS
returns-then-end-base-ge-WORD_BITS c j l = word-all c.args.end (64 * c.args.i) j l (omega arith)

pub returns-else-end-base-ge-WORD_BITS : goal.returns-else-end-base-ge-WORD_BITS
returns-else-end-base-ge-WORD_BITS c j l = word-some c.args.end (64 * c.args.i) (c.args.end - 64 * c.args.i) j (omega arith) (omega arith)
