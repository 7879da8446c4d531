use Rattle.frame_laws.proofs.Singles.{single_law}
use Rattle.frame_laws.proofs.group_laws.single_law.Goals as goal

pub returns : goal.returns
returns c = record { law = single_law }
