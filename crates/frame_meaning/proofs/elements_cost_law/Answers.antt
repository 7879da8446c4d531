use Rattle.frame_meaning.proofs.Instructions.{elements_cost_law}
use Rattle.frame_meaning.proofs.elements_cost_law.Goals as goal

pub returns : goal.returns
returns c = record { law = elements_cost_law }
