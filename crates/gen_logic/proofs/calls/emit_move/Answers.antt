use Rattle.gen_logic.specs.Recipes.{logic_steps}
use Rattle.gen_logic.proofs.calls.emit_move.Goals as goal

pub returns-clause-ops : goal.returns-clause-ops
unfolding logic_steps
returns-clause-ops g c = c.emit_logic.ensures.ops

pub returns-clause-realises : goal.returns-clause-realises
unfolding logic_steps
returns-clause-realises g c = c.emit_logic.ensures.realises

pub returns-clause-bits : goal.returns-clause-bits
unfolding logic_steps
returns-clause-bits g c = c.emit_logic.ensures.bits

pub returns-clause-cost : goal.returns-clause-cost
unfolding logic_steps
returns-clause-cost g c = c.emit_logic.ensures.cost
