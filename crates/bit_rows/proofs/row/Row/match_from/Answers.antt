use Rattle.std.proofs.Common.{◌≡◌, length, ap, sym, ◌∙◌, arith, length-take-le}
use mathlib.Core.Bool.{beq}
use Rattle.bit_rows.proofs.Packed.{matched_row, lens, length-bits_of}
use Rattle.bit_rows.proofs.row.Row.match_from.Goals as goal

pub returns-clause-len : goal.returns-clause-len
returns-clause-len c = length-bits_of c.self.inside.len _ ∙ sym (length-bits_of c.self.inside.len c.self.inside.words) ∙ ap length c.self.view_is

pub returns-clause-bits : goal.returns-clause-bits
returns-clause-bits c =
    let n = c.self.inside.len in
    let m = c.words_of-count.result in
    let same : n ≡ c.row.inside.len = lens n c.row.inside.len c.self.inside.words c.row.inside.words c.args.self.now c.args.row.now c.self.view_is c.row.view_is c.requires in
    rw (← c.row.view_is) (matched_row (λ b. beq b c.args.want) n c.row.inside.len m c.self.inside.words c.row.inside.words c.match_words_from.new.into c.trim.new.words c.self.invariant.trimmed c.row.invariant.trimmed same (omega arith) (omega (arith, c.self.told))
    (c.match_words_from.auto.into ∙ length-take-le m c.self.inside.words (omega (arith, c.self.told))) c.match_words_from.ensures c.trim.ensures)
