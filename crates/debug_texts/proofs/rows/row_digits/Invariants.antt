use Rattle.std.proofs.Common.{◌≡◌, ◌+◌, ◌-◌, ◌*◌}
use Rattle.std.specs.List.{flat_map, range_with_len}
use Rattle.arrayvec.specs.ArrayString.{array_string_len}
use Rattle.debug_texts.specs.ShownTexts.{bits_of, row_piece}
use Rattle.debug_texts.proofs.rows.row_digits.Given as goal

-- the digits of the bytes that were read
abbrev pub invariant-loop-j : goal.invariant-loop-j
invariant-loop-j l = record {
  text : l.line.bytes ≡ flat_map (row_piece (bits_of l.row)) (range_with_len l.first (l.j - l.first));
  room : array_string_len l.line + 2 * l.first ≡ 2 * l.j;
}
