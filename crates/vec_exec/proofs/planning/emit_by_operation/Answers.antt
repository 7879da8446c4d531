use Rattle.std.proofs.Common.{◌∙◌, sym}
use Rattle.vec_exec.proofs.Planned.{prog-is, cost-is, whole-prog, whole-costs}
use Rattle.vec_exec.proofs.planning.emit_by_operation.Goals as goal

pub emit_whole-requires-clause-none : goal.emit_whole-requires-clause-none
emit_whole-requires-clause-none c = sym c.recipe_of.ensures ∙ c.in-None.is

pub returns-in-Some-clause-program : goal.returns-in-Some-clause-program
returns-in-Some-clause-program c =
    c.emit_program.ensures.program ∙ sym (prog-is c.in-Some.recipe c.args.i.now c.args.cfg.now c.args.scalar (sym c.recipe_of.ensures ∙ c.in-Some.is))

pub returns-in-Some-clause-cost : goal.returns-in-Some-clause-cost
returns-in-Some-clause-cost c = c.emit_program.ensures.cost ∙ sym (cost-is c.in-Some.recipe c.args.i.now c.args.cfg.now (sym c.recipe_of.ensures ∙ c.in-Some.is))

pub returns-in-None-clause-program : goal.returns-in-None-clause-program
returns-in-None-clause-program c =
    c.emit_whole.ensures.program ∙ sym (whole-prog c.args.i.now c.args.cfg.now c.args.scalar (sym c.recipe_of.ensures ∙ c.in-None.is))

pub returns-in-None-clause-cost : goal.returns-in-None-clause-cost
returns-in-None-clause-cost c = c.emit_whole.ensures.cost ∙ sym (whole-costs c.args.i.now c.args.cfg.now (sym c.recipe_of.ensures ∙ c.in-None.is))
