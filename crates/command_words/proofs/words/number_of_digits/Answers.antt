use Rattle.std.proofs.Common.{◌≡◌, ◌+◌, ◌*◌, ◌<◌, refl, sym, ap, ◌∙◌, arith}
use Rattle.command_words.specs.Grammar.{in_range}
use Rattle.command_words.proofs.GrammarLemmas.{within_range, beyond_range, past_range, digits_more, digits_end, digits_done}
use Rattle.command_words.proofs.words.number_of_digits.Goals as goal

pub returns-in_err-digit-clause-value : goal.returns-in_err-digit-clause-value
returns-in_err-digit-clause-value c =
    let end = digits_end c.args.digits.now c.loop-byte.number c.loop-byte.byte-index _ (omega arith) refl c.in_err-digit.ensures.digit in
    c.from_residual.ensures ∙ sym (ap (in_range c.args.most) (sym c.loop-byte.invariant ∙ end))

pub returns-in_err-checked_mul-clause-value : goal.returns-in_err-checked_mul-clause-value
returns-in_err-checked_mul-clause-value c =
    let more = digits_more c.args.digits.now c.loop-byte.number c.loop-byte.byte-index _ _ (omega arith) refl c.in_ok-digit.ensures.digit in
    let past : c.args.most < 10 * c.loop-byte.number + c.in_ok-digit.digit = omega (arith, c.in_err-checked_mul.ensures) in
    c.from_residual-in_err-checked_mul.ensures ∙ sym (ap (in_range c.args.most) (sym c.loop-byte.invariant ∙ more) ∙ past_range _ c.args.most _ past)

pub returns-in_err-number-clause-value : goal.returns-in_err-number-clause-value
returns-in_err-number-clause-value c =
    let more = digits_more c.args.digits.now c.loop-byte.number c.loop-byte.byte-index _ _ (omega arith) refl c.in_ok-digit.ensures.digit in
    let past : c.args.most < 10 * c.loop-byte.number + c.in_ok-digit.digit = omega (arith, c.in_ok-checked_mul.ensures, c.in_err-number.ensures, c.from.ensures) in
    c.from_residual-in_err-number.ensures ∙ sym (ap (in_range c.args.most) (sym c.loop-byte.invariant ∙ more) ∙ past_range _ c.args.most _ past)

pub loop-byte-preserved : goal.loop-byte-preserved
loop-byte-preserved c =
    let more = digits_more c.args.digits.now c.loop-byte.number c.loop-byte.byte-index _ _ (omega arith) refl c.in_ok-digit.ensures.digit in
    let same : c.in_ok-number.number ≡ 10 * c.loop-byte.number + c.in_ok-digit.digit = omega (arith, c.in_ok-checked_mul.ensures, c.in_ok-number.ensures, c.from.ensures) in
    rw same (sym more ∙ c.loop-byte.invariant)

pub returns-then-number-most-clause-value : goal.returns-then-number-most-clause-value
returns-then-number-most-clause-value c =
    let done = digits_done c.args.digits.now c.loop-byte.number c.loop-byte.byte-index (omega arith) in
    sym (ap (in_range c.args.most) (sym c.loop-byte.invariant ∙ done) ∙ within_range c.args.most c.loop-byte.number (omega arith))

pub returns-else-number-most-clause-value : goal.returns-else-number-most-clause-value
returns-else-number-most-clause-value c =
    let done = digits_done c.args.digits.now c.loop-byte.number c.loop-byte.byte-index (omega arith) in
    sym (ap (in_range c.args.most) (sym c.loop-byte.invariant ∙ done) ∙ beyond_range c.args.most c.loop-byte.number (omega arith))
