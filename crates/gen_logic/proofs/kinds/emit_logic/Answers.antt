use Rattle.std.proofs.Common.{◌∙◌, append_assoc}
use Rattle.gen_logic.proofs.Tables.{logic-bits, logic-numbers, logic-measured, logic-parts, not-result}
use Rattle.gen_logic.proofs.kinds.emit_logic.Goals as goal

pub returns-clause-ops : goal.returns-clause-ops
returns-clause-ops g c = λ w some.
    let at = c.args.at.now in
    c.emit_commit.ensures.ops w some
    ∙ rw (c.emit_made.ensures.ops w some, c.emit_clear.ensures.ops w some, logic-parts c.args.kind w at.a at.b at.to) (simp append_assoc)

pub returns-clause-realises : goal.returns-clause-realises
returns-clause-realises g c = λ reads. let at = c.args.at.now in logic-numbers c.args.kind g.W.Width.BITS at.a at.b at.to reads (not-result _ c.requires.a) (not-result _ c.requires.b) c.requires.to

pub returns-clause-bits : goal.returns-clause-bits
returns-clause-bits g c = λ w. let at = c.args.at.now in logic-bits c.args.kind w at.a at.b at.to (not-result _ c.requires.a) (not-result _ c.requires.b) c.requires.to

pub returns-clause-cost : goal.returns-clause-cost
returns-clause-cost g c = λ w. let at = c.args.at.now in logic-measured c.args.kind w at.a at.b at.to c.requires.to
