use Rattle.frame_laws.proofs.Classes.Compared.{compared_bytes_law}
use Rattle.frame_laws.proofs.class_laws.compared_bytes_law.Goals as goal

pub returns : goal.returns
returns c = record { law = compared_bytes_law }
