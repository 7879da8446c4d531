use Rattle.std.proofs.Common.{true, sym, ◌∙◌}
use Rattle.steer_net.proofs.Spans.{word-alike}
use Rattle.steer_net.proofs.ranges.all_bits.Goals as goal

pub returns-then-bit : goal.returns-then-bit
returns-then-bit c j l = word-alike true j l ∙ sym c.if-bit.true
