use Rattle.frame_laws.proofs.Bytes.{held_law}
use Rattle.frame_laws.proofs.group_laws.held_law.Goals as goal

pub returns : goal.returns
returns c = record { law = held_law }
