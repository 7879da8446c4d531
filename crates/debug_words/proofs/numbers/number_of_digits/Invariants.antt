use Rattle.std.proofs.Common.{◌≡◌, ◌+◌, ◌≤◌, ◌^◌, drop}
use Rattle.debug_words.specs.Grammar.{digits_after}
use Rattle.debug_words.proofs.numbers.number_of_digits.Given as goal

-- the digits that are left make the number, which is below a power of sixteen
abbrev pub invariant-loop-byte : goal.invariant-loop-byte
invariant-loop-byte l = record {
  left : digits_after l.radix l.number (drop l.byte-index l.digits) ≡ digits_after l.radix 0 l.digits;
  below : l.number + 1 ≤ 16 ^ l.byte-index;
}
