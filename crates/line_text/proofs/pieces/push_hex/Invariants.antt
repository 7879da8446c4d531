use Rattle.std.proofs.Common.{◌≡◌, ◌+◌, ◌++◌}
use Rattle.arrayvec.specs.ArrayString.{array_string_len}
use Rattle.bit_laws.specs.Digits.{hex_digits}
use Rattle.line_text.proofs.pieces.push_hex.Given as goal

-- the digits that are left make the number, and have room
abbrev pub invariant-loop-place : goal.invariant-loop-place
invariant-loop-place l = record {
  text : l.line.bytes ++ hex_digits l.place l.value ≡ l.initial.line.bytes ++ hex_digits l.digits l.value;
  room : array_string_len l.line + l.place ≡ array_string_len l.initial.line + l.digits;
}
