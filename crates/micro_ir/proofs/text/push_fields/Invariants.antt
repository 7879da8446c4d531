use Rattle.std.proofs.Common.{◌≡◌, ◌+◌, ◌*◌, ◌≤◌, ◌++◌, drop}
use Rattle.arrayvec.specs.ArrayString.{array_string_len}
use Rattle.micro_ir.specs.Listing.{numbers}
use Rattle.micro_ir.proofs.text.push_fields.Given as goal

-- the numbers that are left make the text, and have room
abbrev pub invariant-loop-field : goal.invariant-loop-field
invariant-loop-field l = record {
  text : l.line.bytes ++ numbers (drop l.field-index l.fields) ≡ l.fn.line.bytes ++ numbers l.fields;
  room : array_string_len l.line ≤ array_string_len l.fn.line + 21 * l.field-index;
}
