use Rattle.frame_laws.proofs.Classes.Halved.{halved_bytes_law}
use Rattle.frame_laws.proofs.class_laws.halved_bytes_law.Goals as goal

pub returns : goal.returns
returns c = record { law = halved_bytes_law }
