use Rattle.std.proofs.Common.{◌≡◌, true, ◌++◌, length, drop, take, replicate, ap, sym, ◌∙◌, arith, length-take-le}
use Rattle.bit_rows.proofs.Packed.{one_words, same_row, bit-replaced, kept_by, length-bits_of}
use Rattle.std.proofs.lemmas.Simd.{length-replicate}
use Rattle.bit_rows.proofs.row.Row.fill.Goals as goal

pub returns-clause-len : goal.returns-clause-len
returns-clause-len c = length-bits_of c.self.inside.len _ ∙ sym (length-bits_of c.self.inside.len c.self.inside.words) ∙ ap length c.self.view_is

pub returns-clause-bits : goal.returns-clause-bits
returns-clause-bits c =
    let n = c.self.inside.len in
    let m = c.words_of.result in
    let e : n ≡ length c.args.self.now = sym (length-bits_of n c.self.inside.words) ∙ ap length c.self.view_is in
    let long : length (take m c.self.inside.words) ≡ m = length-take-le m c.self.inside.words (omega (arith, c.self.told)) in
    let made : c.fill_words.new.words ≡ replicate m 18446744073709551615 = c.fill_words.ensures ∙ ap (λ t. replicate t 18446744073709551615) long in
    let kept = kept_by n (c.fill_words.new.words ++ drop m c.self.inside.words) c.trim.new.words c.trim.ensures in
    rw (← e) (same_row n c.trim.new.words true (λ k l. kept k l ∙ rw made (bit-replaced n m c.self.inside.words (replicate m 18446744073709551615) c.self.invariant.trimmed (omega arith) (length-replicate m 18446744073709551615) k ∙ one_words m k (omega arith))))
