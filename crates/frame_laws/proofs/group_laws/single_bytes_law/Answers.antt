use Rattle.frame_laws.proofs.Singles.{single_bytes_law}
use Rattle.frame_laws.proofs.group_laws.single_bytes_law.Goals as goal

pub returns : goal.returns
returns c = record { law = single_bytes_law }
