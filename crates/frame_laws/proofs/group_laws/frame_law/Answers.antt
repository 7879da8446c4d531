use Rattle.frame_laws.proofs.Registers.{frame_law}
use Rattle.frame_laws.proofs.group_laws.frame_law.Goals as goal

pub returns : goal.returns
returns c = record { law = frame_law }
