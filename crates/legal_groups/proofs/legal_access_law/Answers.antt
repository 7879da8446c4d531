use Rattle.legal_groups.proofs.Accesses.{legal_access_law}
use Rattle.legal_groups.proofs.legal_access_law.Goals as goal

pub returns : goal.returns
returns c = record { law = legal_access_law }
