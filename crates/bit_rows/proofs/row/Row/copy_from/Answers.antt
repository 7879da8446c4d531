use Rattle.std.proofs.Common.{◌≡◌, length, take, ap, sym, ◌∙◌, arith, length-take-le}
use Rattle.bit_rows.specs.Rows.{bits_of}
use Rattle.bit_rows.proofs.Packed.{replaced_row, length-bits_of, lens, bit-take, bit-trimmed}
use Rattle.bit_rows.proofs.row.Row.copy_from.Goals as goal

pub invariant_of-self : goal.invariant_of-self
invariant_of-self c =
    let n = c.self.inside.len in
    let m = c.words_of-count.result in
    let long : length (take m c.other.inside.words) ≡ m = length-take-le m c.other.inside.words (omega (arith, c.other.told)) in
    let same : n ≡ c.other.inside.len = lens n c.other.inside.len c.self.inside.words c.other.inside.words c.args.self.now c.args.other.now c.self.view_is c.other.view_is c.requires in
    let z = replaced_row n m c.self.inside.words (take m c.other.inside.words) (bits_of c.other.inside.len c.other.inside.words) c.self.invariant.trimmed (omega arith) long (length-bits_of c.other.inside.len c.other.inside.words ∙ sym same)
    (λ k. bit-take c.other.inside.len m c.other.inside.words c.other.invariant.trimmed (omega arith) k ∙ sym (bit-trimmed c.other.inside.len c.other.inside.words c.other.invariant.trimmed k)) in
    record { few = c.self.invariant.few; trimmed = rw c.copy_words.ensures z.0 }

pub returns-clause-len : goal.returns-clause-len
returns-clause-len c = length-bits_of c.self.inside.len _ ∙ sym (length-bits_of c.self.inside.len c.self.inside.words) ∙ ap length c.self.view_is

pub returns-clause-bits : goal.returns-clause-bits
returns-clause-bits c =
    let n = c.self.inside.len in
    let m = c.words_of-count.result in
    let long : length (take m c.other.inside.words) ≡ m = length-take-le m c.other.inside.words (omega (arith, c.other.told)) in
    let same : n ≡ c.other.inside.len = lens n c.other.inside.len c.self.inside.words c.other.inside.words c.args.self.now c.args.other.now c.self.view_is c.other.view_is c.requires in
    let z = replaced_row n m c.self.inside.words (take m c.other.inside.words) (bits_of c.other.inside.len c.other.inside.words) c.self.invariant.trimmed (omega arith) long (length-bits_of c.other.inside.len c.other.inside.words ∙ sym same)
    (λ k. bit-take c.other.inside.len m c.other.inside.words c.other.invariant.trimmed (omega arith) k ∙ sym (bit-trimmed c.other.inside.len c.other.inside.words c.other.invariant.trimmed k)) in
    rw (c.copy_words.ensures, ← c.other.view_is) z.1
