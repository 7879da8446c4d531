use Rattle.std.proofs.Common.{◌≡◌, ◌+◌, ◌-◌, ◌<◌, ap, ◌∙◌, arith}
use Rattle.bit_rows.specs.Words.{word_bit}
use Rattle.steer_net.proofs.Copied.{later_word}
use Rattle.steer_net.proofs.copies.moved_word.Goals as goal

pub returns-then-at-from : goal.returns-then-at-from
returns-then-at-from c j l h =
    let e : c.args.at - c.args.from + j ≡ c.args.at + j - c.args.from = omega arith in
    c.word_from.ensures j l ∙ ap (word_bit c.args.row.now) e

pub returns-else-at-from : goal.returns-else-at-from
returns-else-at-from c j l h = let k : c.args.at < c.args.from = omega arith in rw c.word_at.ensures (later_word c.args.row.now c.args.at c.args.from j k c.requires l h)
