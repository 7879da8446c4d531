use Rattle.std.proofs.Common.{◌∙◌, refl, sym, ap}
use Rattle.std.specs.Prelude.{is_some}
use Rattle.std.proofs.lemmas.Bool.{false≢true}
use Rattle.vec_exec.proofs.planning.emit_fold.Goals as goal

pub unreachable-requires : goal.unreachable-requires
unreachable-requires c = false≢true (sym (ap is_some c.in-None.is) ∙ (ap is_some c.kind_of.ensures ∙ c.requires.kind))

pub returns-clause-program : goal.returns-clause-program
returns-clause-program c = c.plan.ensures.program ∙ rw (sym c.kind_of.ensures ∙ c.in-Some.is) refl

pub returns-clause-cost : goal.returns-clause-cost
returns-clause-cost c = c.plan.ensures.cost ∙ rw (sym c.kind_of.ensures ∙ c.in-Some.is) refl
