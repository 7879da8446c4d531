use Rattle.std.proofs.Common.{◌≡◌, drop}
use Rattle.command_words.specs.Grammar.{digits_after}
use Rattle.command_words.proofs.words.number_of_digits.Given as goal

-- the digits that are left make the number
abbrev pub invariant-loop-byte : goal.invariant-loop-byte
invariant-loop-byte l = digits_after l.number (drop l.byte-index l.digits) ≡ digits_after 0 l.digits
