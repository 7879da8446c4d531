use Rattle.frame_meaning.proofs.Masks.{compare_cost_law}
use Rattle.frame_meaning.proofs.compare_cost_law.Goals as goal

pub returns : goal.returns
returns c = record { law = compare_cost_law }
