use Rattle.legal_groups.proofs.Rules.{legal_law}
use Rattle.legal_groups.proofs.legal_law.Goals as goal

pub returns : goal.returns
returns c = record { law = legal_law }
