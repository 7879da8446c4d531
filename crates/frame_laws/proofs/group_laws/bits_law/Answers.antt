use Rattle.frame_laws.proofs.Bytes.{bits_law}
use Rattle.frame_laws.proofs.group_laws.bits_law.Goals as goal

pub returns : goal.returns
returns c = record { law = bits_law }
