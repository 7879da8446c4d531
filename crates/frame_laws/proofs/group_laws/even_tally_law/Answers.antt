use Rattle.frame_laws.proofs.Costs.{even_tally_law}
use Rattle.frame_laws.proofs.group_laws.even_tally_law.Goals as goal

pub returns : goal.returns
returns c = record { law = even_tally_law }
