use Rattle.std.proofs.Common.{◌-◌}
use Rattle.cam_chain.specs.ChainValue.{slices_of}
use Rattle.cape_io.proofs.Writing.{Continues}
use Rattle.run_texts.specs.WorkTexts.{subarray_text, work_text}
use Rattle.run_texts.proofs.PieceLemmas.{pieces}
use Rattle.run_texts.proofs.work.write_work.Given as goal

-- the lines from those of the subarray on are left
abbrev pub invariant-loop-sub : goal.invariant-loop-sub
invariant-loop-sub g l = record {
  continues : Continues g.E.Sink (work_text (slices_of l.chain)) l.initial.err (pieces (subarray_text (slices_of l.chain)) l.sub (32 - l.sub)) l.err;
}
