use Rattle.legal_groups.proofs.Groups.{legal_plain_law}
use Rattle.legal_groups.proofs.legal_plain_law.Goals as goal

pub returns : goal.returns
returns c = record { law = legal_plain_law }
