use Rattle.vec_mem.proofs.GoingOn.{resume_law}
use Rattle.vec_mem.proofs.resume_law.Goals as goal

pub returns : goal.returns
returns c = record { law = resume_law }
