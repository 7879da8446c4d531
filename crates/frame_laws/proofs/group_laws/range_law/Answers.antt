use Rattle.frame_laws.proofs.Costs.{range_law}
use Rattle.frame_laws.proofs.group_laws.range_law.Goals as goal

pub returns : goal.returns
returns c = record { law = range_law }
