use Rattle.frame_laws.proofs.Preparing.{agreeing_law}
use Rattle.frame_laws.proofs.group_laws.agreeing_law.Goals as goal

pub returns : goal.returns
returns c = record { law = agreeing_law }
