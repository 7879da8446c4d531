use Rattle.std.proofs.Common.{◌≡◌, ◌+◌, ◌*◌, ◌++◌}
use Rattle.arrayvec.specs.ArrayString.{array_string_len}
use Rattle.debug_texts.specs.ShownTexts.{memory_bytes}
use Rattle.debug_texts.proofs.lines.push_bytes.Given as goal

-- the bytes that were read
abbrev pub invariant-loop-i : goal.invariant-loop-i
invariant-loop-i l = record {
  text : l.line.bytes ≡ l.initial.line.bytes ++ memory_bytes l.mem.pages l.address l.i;
  room : array_string_len l.line ≡ array_string_len l.initial.line + 2 * l.i;
}
