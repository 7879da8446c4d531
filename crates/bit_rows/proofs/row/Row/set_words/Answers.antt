use Rattle.std.proofs.Common.{◌≡◌, false, length, get_or, ap, sym, ◌∙◌, arith, length-take-le}
use Rattle.bit_rows.specs.Rows.{bits_of}
use Rattle.bit_rows.specs.Words.{IsTrimmed}
use Rattle.bit_rows.proofs.Packed.{replaced_row, length-bits_of, bit-trimmed}
use Rattle.bit_rows.proofs.row.Row.set_words.Goals as goal

pub copy_words-requires : goal.copy_words-requires
copy_words-requires c =
    let e : c.self.inside.len ≡ length c.args.self.now = sym (length-bits_of c.self.inside.len c.self.inside.words) ∙ ap length c.self.view_is in
    length-take-le c.words_of-count.result c.self.inside.words (omega (arith, c.self.told)) ∙ c.words_of-count.ensures.value ∙ rw e (sym c.requires.len)

pub invariant_of-self : goal.invariant_of-self
invariant_of-self c =
    let n = c.self.inside.len in
    let m = c.words_of-count.result in
    let e : n ≡ length c.args.self.now = sym (length-bits_of n c.self.inside.words) ∙ ap length c.self.view_is in
    let t : IsTrimmed n c.args.words.now = rw e c.requires.trimmed in
    let long : length c.args.words.now ≡ m = c.requires.len ∙ rw (← e) (sym c.words_of-count.ensures.value) in
    let z = replaced_row n m c.self.inside.words c.args.words.now (bits_of n c.args.words.now) c.self.invariant.trimmed (omega arith) long (length-bits_of n c.args.words.now) (λ k. sym (bit-trimmed n c.args.words.now t k)) in
    record { few = c.self.invariant.few; trimmed = rw c.copy_words.ensures z.0 }

pub returns-clause-len : goal.returns-clause-len
returns-clause-len c = length-bits_of c.self.inside.len _ ∙ sym (length-bits_of c.self.inside.len c.self.inside.words) ∙ ap length c.self.view_is

pub returns-clause-bits : goal.returns-clause-bits
returns-clause-bits c k =
    let n = c.self.inside.len in
    let m = c.words_of-count.result in
    let e : n ≡ length c.args.self.now = sym (length-bits_of n c.self.inside.words) ∙ ap length c.self.view_is in
    let t : IsTrimmed n c.args.words.now = rw e c.requires.trimmed in
    let long : length c.args.words.now ≡ m = c.requires.len ∙ rw (← e) (sym c.words_of-count.ensures.value) in
    let z = replaced_row n m c.self.inside.words c.args.words.now (bits_of n c.args.words.now) c.self.invariant.trimmed (omega arith) long (length-bits_of n c.args.words.now) (λ k. sym (bit-trimmed n c.args.words.now t k)) in
    rw c.copy_words.ensures (ap (λ xs. get_or xs k false) z.1 ∙ bit-trimmed n c.args.words.now t k)
