use Rattle.std.proofs.Common.{◌∙◌, append_assoc}
use Rattle.gen_mul.proofs.Written.{both-list}
use Rattle.gen_mul.proofs.finish.emit_both.Goals as goal

pub returns-clause-ops : goal.returns-clause-ops
returns-clause-ops g c = c.emit_correcting-2.ensures.ops ∙ rw (c.emit_correcting.ensures.ops, both-list g.W.Width.BITS c.args.a c.args.b) (simp append_assoc)
