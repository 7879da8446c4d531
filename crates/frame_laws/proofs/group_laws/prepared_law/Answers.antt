use Rattle.frame_laws.proofs.Preparing.{prepared_law}
use Rattle.frame_laws.proofs.group_laws.prepared_law.Goals as goal

pub returns : goal.returns
returns c = record { law = prepared_law }
