use Rattle.std.proofs.Common.{◌≡◌, ◌+◌, ◌-◌, ◌*◌}
use Rattle.std.specs.List.{flat_map, range_with_len}
use Rattle.arrayvec.specs.ArrayString.{array_string_len}
use Rattle.report_texts.specs.StateTexts.{vector_byte}
use Rattle.report_texts.proofs.state.byte_digits.Given as goal

-- the digits of the bytes that were read
abbrev pub invariant-loop-j : goal.invariant-loop-j
invariant-loop-j l = record {
  text : l.line.bytes ≡ flat_map (vector_byte l.machine.core l.r) (range_with_len l.first (l.j - l.first));
  room : array_string_len l.line + 2 * l.first ≡ 2 * l.j;
}
