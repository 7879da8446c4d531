use Rattle.std.proofs.Common.{◌≤◌, ◌-◌, length}
use Rattle.cape_io.proofs.Writing.{Continues}
use Rattle.debug_texts.specs.ShownTexts.{bits_of, row_piece, row_text}
use Rattle.debug_texts.proofs.Pieces.{pieces}
use Rattle.debug_texts.proofs.rows.write_row.Given as goal

-- the bytes from the first on are left
abbrev pub invariant-loop-first : goal.invariant-loop-first
invariant-loop-first g l = record {
  bound : l.first ≤ l.bytes;
  continues : Continues g.O.Sink (row_text (length l.row) (bits_of l.row)) l.initial.out (pieces (row_piece (bits_of l.row)) l.first (l.bytes - l.first)) l.out;
}

abbrev pub decreases-loop-first : goal.decreases-loop-first
decreases-loop-first g l = l.bytes - l.first
