use Rattle.std.proofs.Common.{sym, ◌∙◌}
use Rattle.vec_exec.proofs.Written.{measured-none}
use Rattle.vec_exec.proofs.halves.emit_flag_test.Goals as goal

pub returns-else-tells_clips-clause-cost : goal.returns-else-tells_clips-clause-cost
returns-else-tells_clips-clause-cost g c = rw (sym c.tells_clips.ensures ∙ c.if-tells_clips.false) measured-none
