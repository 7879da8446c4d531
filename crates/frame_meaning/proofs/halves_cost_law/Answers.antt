use Rattle.frame_meaning.proofs.Halves.{halves_cost_law}
use Rattle.frame_meaning.proofs.halves_cost_law.Goals as goal

pub returns : goal.returns
returns c = record { law = halves_cost_law }
