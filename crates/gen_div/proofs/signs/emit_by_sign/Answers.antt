use Rattle.std.proofs.Common.{◌∙◌, append_assoc}
use Rattle.gen_div.proofs.Families.{signed-row, signed-apart}
use Rattle.gen_div.proofs.Written.{by_sign-list}
use Rattle.gen_div.proofs.signs.emit_by_sign.Goals as goal

pub emit_broadcast-requires-clause-row : goal.emit_broadcast-requires-clause-row
emit_broadcast-requires-clause-row g c = signed-row c.args.y c.requires.y

pub emit_broadcast-requires-clause-apart : goal.emit_broadcast-requires-clause-apart
emit_broadcast-requires-clause-apart g c = signed-apart c.args.y c.requires.y

pub returns-clause-ops : goal.returns-clause-ops
returns-clause-ops g c =
    c.emit_negating.ensures.ops ∙ rw (rw c.BITS.ensures at c.emit_broadcast.ensures.ops, by_sign-list g.W.Width.BITS c.args.y c.args.x c.args.out) (simp append_assoc)
