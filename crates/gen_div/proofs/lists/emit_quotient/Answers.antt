use Rattle.std.proofs.Common.{◌∙◌, append_assoc}
use Rattle.gen_div.proofs.Written.{signed-list}
use Rattle.gen_div.proofs.lists.emit_quotient.Goals as goal

pub returns-clause-ops : goal.returns-clause-ops
returns-clause-ops g c =
    (rw c.quotient_row.ensures.role at c.emit_negating.ensures.ops) ∙ rw (c.emit_quotient_signs.ensures.ops, signed-list g.W.Width.BITS c.args.a c.args.b) (simp append_assoc)
