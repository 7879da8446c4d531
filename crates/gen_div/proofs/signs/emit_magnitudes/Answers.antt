use Rattle.std.proofs.Common.{◌∙◌, append_assoc, refl, inl, inr}
use Rattle.gen_div.proofs.Families.{signed-row}
use Rattle.gen_div.proofs.Written.{magnitudes-list}
use Rattle.gen_div.proofs.signs.emit_magnitudes.Goals as goal

pub emit_by_sign-requires-clause-x : goal.emit_by_sign-requires-clause-x
emit_by_sign-requires-clause-x g c = signed-row c.args.a c.requires.a

pub emit_by_sign-requires-2-clause-x : goal.emit_by_sign-requires-2-clause-x
emit_by_sign-requires-2-clause-x g c = signed-row c.args.b c.requires.b

pub emit_dividing-requires-clause-a : goal.emit_dividing-requires-clause-a
emit_dividing-requires-clause-a g c = inr (inr (inr (inl refl)))

pub emit_dividing-requires-clause-b : goal.emit_dividing-requires-clause-b
emit_dividing-requires-clause-b g c = inr (inr (inr (inr refl)))

pub returns-clause-ops : goal.returns-clause-ops
returns-clause-ops g c =
    c.emit_dividing.ensures.ops ∙ rw (c.emit_by_sign-2.ensures.ops, c.emit_by_sign.ensures.ops, magnitudes-list g.W.Width.BITS c.args.a c.args.b) (simp append_assoc)
