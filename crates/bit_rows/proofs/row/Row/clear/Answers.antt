use Rattle.std.proofs.Common.{◌≡◌, false, length, take, replicate, ap, sym, ◌∙◌, refl, arith, length-take-le}
use Rattle.bit_rows.proofs.Packed.{zero_words, replaced_row, length-bits_of, get_or_false}
use Rattle.std.proofs.lemmas.Simd.{length-replicate}
use Rattle.bit_rows.proofs.row.Row.clear.Goals as goal

pub returns-clause-len : goal.returns-clause-len
returns-clause-len c = length-bits_of c.self.inside.len _ ∙ sym (length-bits_of c.self.inside.len c.self.inside.words) ∙ ap length c.self.view_is

pub returns-clause-bits : goal.returns-clause-bits
returns-clause-bits c =
    let n = c.self.inside.len in
    let m = c.words_of-count.result in
    let e : n ≡ length c.args.self.now = sym (length-bits_of n c.self.inside.words) ∙ ap length c.self.view_is in
    let long : length (take m c.self.inside.words) ≡ m = length-take-le m c.self.inside.words (omega (arith, c.self.told)) in
    let made : c.fill_words.new.words ≡ replicate m 0 = c.fill_words.ensures ∙ ap (λ t. replicate t 0) long in
    rw (made, ← e) (replaced_row n m c.self.inside.words (replicate m 0) (replicate n false) c.self.invariant.trimmed (omega arith) (length-replicate m 0) (length-replicate n false)
    (λ k. zero_words m 0 k refl ∙ sym (get_or_false n k))).1
