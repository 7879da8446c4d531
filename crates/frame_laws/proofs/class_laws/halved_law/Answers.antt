use Rattle.frame_laws.proofs.Classes.Halved.{halved_law}
use Rattle.frame_laws.proofs.class_laws.halved_law.Goals as goal

pub returns : goal.returns
returns c = record { law = halved_law }
