use Rattle.frame_laws.proofs.Bytes.{bytes_law}
use Rattle.frame_laws.proofs.group_laws.bytes_law.Goals as goal

pub returns : goal.returns
returns c = record { law = bytes_law }
