-- What the tests find is what a word means, and no word fits two rows.
use Rattle.std.proofs.Common.{◌≡◌, ℕ, refl, ap}
use Rattle.std.proofs.lemmas.Nat.{and_comm}
use Rattle.word_rows.specs.Rows.{NoTwoFit}
use Rattle.word_rows.proofs.Walk.{walk-is}
use Rattle.word_rows.proofs.Apart.{no_two_fit}
use Rattle.rv32_decode.specs.Rows.{operations, encoding_of, rows, means, instruction_of}
use Rattle.rv32_decode.specs.Tests.{tests, found}

pub found_is : (w : ℕ) → found w ≡ means w
unfolding found means rows operations encoding_of
found_is w = ap (λ o. instruction_of o w) (walk-is tests 0 0 rows w (and_comm w 0) refl)

pub rows_apart : NoTwoFit rows
unfolding rows operations encoding_of
rows_apart = no_two_fit rows refl
