use Rattle.std.proofs.Common.{◌≡◌, ◌+◌, ◌-◌, ◌*◌, false}
use Rattle.std.specs.Prelude.{slice_index_or}
use Rattle.std.specs.List.{flat_map, range_with_len}
use Rattle.arrayvec.specs.ArrayString.{array_string_len}
use Rattle.run_texts.specs.WorkTexts.{bits_byte}
use Rattle.run_texts.proofs.work.row_digits.Given as goal

-- the digits of the bytes that were read
abbrev pub invariant-loop-j : goal.invariant-loop-j
invariant-loop-j l = record {
  text : l.line.bytes ≡ flat_map (bits_byte (λ col. slice_index_or l.row col false)) (range_with_len l.first (l.j - l.first));
  room : array_string_len l.line + 2 * l.first ≡ 2 * l.j;
}
