use Rattle.std.proofs.Common.{◌≤◌, ◌-◌}
use Rattle.cape_io.proofs.Writing.{Continues}
use Rattle.report_texts.specs.StateTexts.{vector_byte, vector_bytes}
use Rattle.report_texts.proofs.PieceLemmas.{pieces}
use Rattle.report_texts.proofs.state.write_bytes.Given as goal

-- the bytes from the first on are left
abbrev pub invariant-loop-first : goal.invariant-loop-first
invariant-loop-first g l = record {
  bound : l.first ≤ l.bytes;
  continues : Continues g.E.Sink (vector_bytes l.machine.core l.r) l.initial.err (pieces (vector_byte l.machine.core l.r) l.first (l.bytes - l.first)) l.err;
}

abbrev pub decreases-loop-first : goal.decreases-loop-first
decreases-loop-first g l = l.bytes - l.first
