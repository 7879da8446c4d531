use Rattle.frame_laws.proofs.Registers.{group_law}
use Rattle.frame_laws.proofs.group_laws.group_law.Goals as goal

pub returns : goal.returns
returns c = record { law = group_law }
