use Rattle.std.proofs.Common.{◌-◌}
use Rattle.cam_chain.specs.ChainValue.{slices_of}
use Rattle.cape_io.proofs.Writing.{Continues}
use Rattle.run_texts.specs.WorkTexts.{slice_line, slice_lines}
use Rattle.run_texts.proofs.PieceLemmas.{pieces}
use Rattle.run_texts.proofs.work.write_slices.Given as goal

-- the lines from that of the row on are left
abbrev pub invariant-loop-row : goal.invariant-loop-row
invariant-loop-row g l = record {
  continues : Continues g.E.Sink (slice_lines (slices_of l.chain) l.sub) l.initial.err (pieces (slice_line (slices_of l.chain) l.sub) l.row (58 - l.row)) l.err;
}
