use Rattle.machine.proofs.GoingOn.{resume_law}
use Rattle.machine.proofs.resuming.resume_law.Goals as goal

pub returns : goal.returns
returns c = record { law = resume_law }
