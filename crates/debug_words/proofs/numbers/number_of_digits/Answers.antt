use Rattle.std.proofs.Common.{◌<◌, refl, sym, ◌∙◌, arith}
use Rattle.debug_words.proofs.Digits.{bounded_more, digits_done, digits_end, digits_more, product_fits, some_digits}
use Rattle.debug_words.proofs.Pieces.{some_bytes}
use Rattle.debug_words.proofs.numbers.number_of_digits.Goals as goal

pub returns-in_err-digit : goal.returns-in_err-digit
returns-in_err-digit c =
    let end = digits_end c.args.radix c.args.digits.now c.loop-byte.number c.loop-byte.byte-index _ (omega arith) refl c.in_err-digit.ensures.value in
    c.from_residual.ensures ∙ sym (some_digits c.args.radix c.args.digits.now (omega arith) ∙ sym c.loop-byte.invariant.left ∙ end)

pub overflow_mul-number : goal.overflow_mul-number
overflow_mul-number c =
    let fits = product_fits c.args.radix c.loop-byte.number c.loop-byte.byte-index c.requires.radix (omega arith) c.loop-byte.invariant.below in
    omega arith

pub overflow_add-number : goal.overflow_add-number
overflow_add-number c =
    let fits = product_fits c.args.radix c.loop-byte.number c.loop-byte.byte-index c.requires.radix (omega arith) c.loop-byte.invariant.below in
    let small : c.in_ok-digit.digit < 16 = c.in_ok-digit.ensures.small in
    omega arith

pub loop-byte-preserved : goal.loop-byte-preserved
loop-byte-preserved c =
    let more = digits_more c.args.radix c.args.digits.now c.loop-byte.number c.loop-byte.byte-index _ _ (omega arith) refl c.in_ok-digit.ensures.value in
    record {
      left = sym more ∙ c.loop-byte.invariant.left;
      below = bounded_more c.args.radix c.loop-byte.number c.in_ok-digit.digit c.loop-byte.byte-index c.requires.radix c.in_ok-digit.ensures.small c.loop-byte.invariant.below;
    }

pub returns : goal.returns
returns c =
    let done = digits_done c.args.radix c.args.digits.now c.loop-byte.number c.loop-byte.byte-index (omega arith) in
    sym (some_digits c.args.radix c.args.digits.now (some_bytes c.args.digits.now c.if-is_empty.ensures) ∙ sym c.loop-byte.invariant.left ∙ done)
