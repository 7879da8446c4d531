use Rattle.std.proofs.Common.{◌≡◌, ℕ, ◌+◌, ◌-◌, length}
use Rattle.bit_rows.specs.Words.{word_bit}
use Rattle.steer_net.proofs.Copied.{copying}
use Rattle.steer_net.proofs.copies.copy_columns.Given as goal

abbrev pub invariant-loop-i : goal.invariant-loop-i
invariant-loop-i l = record {
  len : length l.words ≡ 32;
  done : (c : ℕ) → word_bit l.words c ≡ copying l.from l.to l.i (λ c. word_bit l.row (l.at + (c - l.from))) (word_bit l.fn.words) c;
}
