use Rattle.frame_laws.proofs.Classes.Plain.{plain_law}
use Rattle.frame_laws.proofs.class_laws.plain_law.Goals as goal

pub returns : goal.returns
returns c = record { law = plain_law }
