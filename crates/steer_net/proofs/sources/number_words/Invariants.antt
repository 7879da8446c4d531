use Rattle.std.proofs.Common.{◌≡◌, ℕ, ◌+◌, ◌*◌, false, eqb}
use Rattle.std.specs.Int.{bit_at}
use Rattle.bit_rows.specs.Words.{word_bit}
use Rattle.steer_net.proofs.RunBits.{running}
use Rattle.steer_net.proofs.sources.number_words.Given as goal

abbrev pub invariant-loop-col : goal.invariant-loop-col
invariant-loop-col l = (c : ℕ) → word_bit l.words c ≡ running 0 l.col (λ c. eqb (bit_at (l.number + c * l.step) l.place) 1) (λ c. false) c
