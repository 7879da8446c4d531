use Rattle.fold_exec.proofs.planning.plan.Goals as goal

pub returns-clause-realises : goal.returns-clause-realises
returns-clause-realises c = λ x. rw c.emit_kind.ensures.program (c.emit_kind.ensures.fine x).realises

pub returns-clause-cost : goal.returns-clause-cost
returns-clause-cost c = rw c.emit_kind.ensures.program (c.emit_kind.ensures.fine 0).cost

pub returns-clause-range : goal.returns-clause-range
returns-clause-range c = rw c.emit_kind.ensures.program (c.emit_kind.ensures.fine 0).range

pub returns-clause-spare : goal.returns-clause-spare
returns-clause-spare c = rw (c.emit_kind.ensures.program, (c.emit_kind.ensures.fine 0).count) c.emit_kind.ensures.spare
