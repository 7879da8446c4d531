use Rattle.std.proofs.Common.{◌≤◌, ◌-◌, false, length}
use Rattle.std.specs.Prelude.{slice_index_or}
use Rattle.cape_io.proofs.Writing.{Continues}
use Rattle.run_texts.specs.WorkTexts.{bits_byte, bits_text}
use Rattle.run_texts.proofs.PieceLemmas.{pieces}
use Rattle.run_texts.proofs.work.write_row.Given as goal

-- the bytes from the first on are left
abbrev pub invariant-loop-first : goal.invariant-loop-first
invariant-loop-first g l = record {
  bound : l.first ≤ l.bytes;
  continues : Continues g.E.Sink (bits_text (length l.row) (λ col. slice_index_or l.row col false)) l.initial.err (pieces (bits_byte (λ col. slice_index_or l.row col false)) l.first (l.bytes - l.first)) l.err;
}

abbrev pub decreases-loop-first : goal.decreases-loop-first
decreases-loop-first g l = l.bytes - l.first
