use Rattle.std.proofs.Common.{◌+◌, ◌*◌, ◌&&◌, ltb}
use Rattle.bit_rows.specs.Words.{word_bit}
use Rattle.steer_net.specs.Rows.{is_one}
use Rattle.steer_net.proofs.Spans.{Spelled}
use Rattle.steer_net.proofs.ranges.lane_words.Given as goal

abbrev pub invariant-loop-i : goal.invariant-loop-i
invariant-loop-i l = Spelled (λ c. ltb c l.columns && is_one l.ones (λ e. word_bit l.mask c) (l.number + c * l.step)) l.i l.words
