use Rattle.frame_laws.proofs.Costs.{length_law}
use Rattle.frame_laws.proofs.group_laws.length_law.Goals as goal

pub returns : goal.returns
returns c = record { law = length_law }
