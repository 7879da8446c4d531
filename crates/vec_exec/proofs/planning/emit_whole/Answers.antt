use Rattle.std.proofs.Common.{◌∙◌, refl, sym}
use Rattle.vec_exec.proofs.Computed.{whole-when-planned}
use Rattle.vec_exec.proofs.planning.emit_whole.Goals as goal

pub plan-requires-clause-form : goal.plan-requires-clause-form
plan-requires-clause-form c = rw (sym c.kind_of.ensures ∙ c.in-Some.is) at (whole-when-planned c.args.i.now c.requires.engine c.requires.none)

pub emit_fold-requires-clause-kind : goal.emit_fold-requires-clause-kind
emit_fold-requires-clause-kind c = rw (sym c.kind_of.ensures ∙ c.in-None.is) at (whole-when-planned c.args.i.now c.requires.engine c.requires.none)

pub returns-in-Some-clause-program : goal.returns-in-Some-clause-program
returns-in-Some-clause-program c = c.plan.ensures.program ∙ rw (sym c.kind_of.ensures ∙ c.in-Some.is) refl

pub returns-in-Some-clause-cost : goal.returns-in-Some-clause-cost
returns-in-Some-clause-cost c = c.plan.ensures.cost ∙ rw (sym c.kind_of.ensures ∙ c.in-Some.is) refl

pub returns-in-None-clause-program : goal.returns-in-None-clause-program
returns-in-None-clause-program c = c.emit_fold.ensures.program ∙ rw (sym c.kind_of.ensures ∙ c.in-None.is) refl

pub returns-in-None-clause-realises : goal.returns-in-None-clause-realises
returns-in-None-clause-realises c = c.emit_fold.ensures.realises c.args.scalar

pub returns-in-None-clause-cost : goal.returns-in-None-clause-cost
returns-in-None-clause-cost c = c.emit_fold.ensures.cost ∙ rw (sym c.kind_of.ensures ∙ c.in-None.is) refl
