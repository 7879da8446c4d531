use Rattle.std.proofs.Common.{◌≡◌, cond, length, take, ap, sym, ◌∙◌, refl, arith, length-take-le}
use Rattle.bit_rows.specs.Words.{word_bit}
use Rattle.bit_rows.proofs.Packed.{zipped_row, lens, length-bits_of, set_where, clear_where}
use Rattle.bit_rows.proofs.row.Row.write_where.Goals as goal

pub invariant_of-self : goal.invariant_of-self
invariant_of-self c =
    let n = c.self.inside.len in
    let m = c.words_of-count.result in
    let same : n ≡ c.mask.inside.len = lens n c.mask.inside.len c.self.inside.words c.mask.inside.words c.args.self.now c.args.mask.now c.self.view_is c.mask.view_is c.requires in
    let z = zipped_row (λ x y. cond y c.args.bit x) n c.mask.inside.len m c.self.inside.words c.mask.inside.words c.or_words.new.into refl c.self.invariant.trimmed c.mask.invariant.trimmed same (omega arith) (c.or_words.auto.into ∙ length-take-le m c.self.inside.words (omega (arith, c.self.told)))
    (λ k. c.or_words.ensures k ∙ set_where (word_bit (take m c.self.inside.words) k) (word_bit (take m c.mask.inside.words) k) c.args.bit c.if-bit.true) in
    record { few = c.self.invariant.few; trimmed = z.0 }

pub returns-then-bit-clause-len : goal.returns-then-bit-clause-len
returns-then-bit-clause-len c = length-bits_of c.self.inside.len _ ∙ sym (length-bits_of c.self.inside.len c.self.inside.words) ∙ ap length c.self.view_is

pub returns-then-bit-clause-bits : goal.returns-then-bit-clause-bits
returns-then-bit-clause-bits c =
    let n = c.self.inside.len in
    let m = c.words_of-count.result in
    let same : n ≡ c.mask.inside.len = lens n c.mask.inside.len c.self.inside.words c.mask.inside.words c.args.self.now c.args.mask.now c.self.view_is c.mask.view_is c.requires in
    let z = zipped_row (λ x y. cond y c.args.bit x) n c.mask.inside.len m c.self.inside.words c.mask.inside.words c.or_words.new.into refl c.self.invariant.trimmed c.mask.invariant.trimmed same (omega arith) (c.or_words.auto.into ∙ length-take-le m c.self.inside.words (omega (arith, c.self.told)))
    (λ k. c.or_words.ensures k ∙ set_where (word_bit (take m c.self.inside.words) k) (word_bit (take m c.mask.inside.words) k) c.args.bit c.if-bit.true) in
    rw (← c.self.view_is, ← c.mask.view_is) z.1

pub returns-else-bit-clause-len : goal.returns-else-bit-clause-len
returns-else-bit-clause-len c = length-bits_of c.self.inside.len _ ∙ sym (length-bits_of c.self.inside.len c.self.inside.words) ∙ ap length c.self.view_is

pub returns-else-bit-clause-bits : goal.returns-else-bit-clause-bits
returns-else-bit-clause-bits c =
    let n = c.self.inside.len in
    let m = c.words_of-count.result in
    let same : n ≡ c.mask.inside.len = lens n c.mask.inside.len c.self.inside.words c.mask.inside.words c.args.self.now c.args.mask.now c.self.view_is c.mask.view_is c.requires in
    let z = zipped_row (λ x y. cond y c.args.bit x) n c.mask.inside.len m c.self.inside.words c.mask.inside.words c.match_words.new.into refl c.self.invariant.trimmed c.mask.invariant.trimmed same (omega arith) (c.match_words.auto.into ∙ length-take-le m c.self.inside.words (omega (arith, c.self.told)))
    (λ k. c.match_words.ensures k ∙ clear_where (word_bit (take m c.self.inside.words) k) (word_bit (take m c.mask.inside.words) k) c.args.bit c.if-bit.false) in
    rw (← c.self.view_is, ← c.mask.view_is) z.1
