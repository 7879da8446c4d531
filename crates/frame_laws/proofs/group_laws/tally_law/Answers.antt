use Rattle.frame_laws.proofs.Costs.{tally_law}
use Rattle.frame_laws.proofs.group_laws.tally_law.Goals as goal

pub returns : goal.returns
returns c = record { law = tally_law }
