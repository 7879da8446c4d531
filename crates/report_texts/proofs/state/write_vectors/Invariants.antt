use Rattle.std.proofs.Common.{◌-◌}
use Rattle.cape_io.proofs.Writing.{Continues}
use Rattle.report_texts.specs.StateTexts.{vector_line, vector_lines}
use Rattle.report_texts.proofs.PieceLemmas.{pieces}
use Rattle.report_texts.proofs.state.write_vectors.Given as goal

-- the lines from that of the register on are left
abbrev pub invariant-loop-r : goal.invariant-loop-r
invariant-loop-r g l = record {
  continues : Continues g.E.Sink (vector_lines l.machine.core) l.initial.err (pieces (vector_line l.machine.core) l.r (32 - l.r)) l.err;
}
