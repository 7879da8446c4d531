use Rattle.std.proofs.Common.{◌≡◌, ℕ, ◌+◌, ◌*◌, ◌<◌, ◌++◌}
use Rattle.frame_laws.specs.Classes.Halved.{halves_list}
use Rattle.frame_laws.specs.Costs.{counts_times}
use Rattle.micro_ir.specs.Measures.{Measured}
use Rattle.vec_exec.specs.Programs.{LeavesPart, FlagsPart, halves_of, wide_lists, one_half_counts, one_half_length}
use Rattle.vec_exec.proofs.halves.emit_halves.Given as goal

-- the halves so far are computed
abbrev pub invariant-loop-half : goal.invariant-loop-half
invariant-loop-half g l = record {
  ops : l.buf.ops ≡ l.fn.buf.ops ++ halves_list l.cfg.vtype.sew (halves_of l.recipe l.i l.cfg) (wide_lists l.recipe l.i l.cfg) l.register l.half;
  spare : l.buf.spare + l.half * one_half_length l.recipe l.i l.cfg ≡ l.fn.buf.spare;
  leaves : (h : ℕ) → h < l.half → LeavesPart l.recipe l.i l.cfg l.register h;
  flags : (h : ℕ) → h < l.half → FlagsPart l.recipe l.i l.cfg l.register h;
  cost : Measured (counts_times l.half (one_half_counts l.recipe l.i l.cfg)) (l.half * one_half_length l.recipe l.i l.cfg)
      (halves_list l.cfg.vtype.sew (halves_of l.recipe l.i l.cfg) (wide_lists l.recipe l.i l.cfg) l.register l.half);
}
