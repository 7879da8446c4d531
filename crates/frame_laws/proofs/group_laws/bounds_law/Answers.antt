use Rattle.frame_laws.proofs.Spans.{bounds_law}
use Rattle.frame_laws.proofs.group_laws.bounds_law.Goals as goal

pub returns : goal.returns
returns c = record { law = bounds_law }
