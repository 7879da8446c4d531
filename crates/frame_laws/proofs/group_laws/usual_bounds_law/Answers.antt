use Rattle.frame_laws.proofs.Ends.{usual_bounds_law}
use Rattle.frame_laws.proofs.group_laws.usual_bounds_law.Goals as goal

pub returns : goal.returns
returns c = record { law = usual_bounds_law }
