use Rattle.std.proofs.Common.{◌∙◌, eqb, false}
use Rattle.std.specs.Int.{bit_at}
use Rattle.bit_rows.proofs.Words.{flip_bit}
use Rattle.steer_net.proofs.Spans.{chosen-alike, chosen-same, chosen-other}
use Rattle.steer_net.proofs.ranges.chosen_bits.Goals as goal

pub returns-then-on-off : goal.returns-then-on-off
returns-then-on-off c j l = c.all_bits.ensures j l ∙ chosen-alike (eqb (bit_at c.args.mask j) 1) c.args.on c.args.off c.if-on-off.true

pub returns-then-on : goal.returns-then-on
returns-then-on c j l = chosen-same (eqb (bit_at c.args.mask j) 1) c.args.on c.args.off c.if-on-off.false c.if-on.true

pub returns-else-on : goal.returns-else-on
returns-else-on c j l = flip_bit false c.args.mask j l ∙ chosen-other (eqb (bit_at c.args.mask j) 1) c.args.on c.args.off c.if-on-off.false c.if-on.false
