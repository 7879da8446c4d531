use Rattle.legal_groups.proofs.Groups.{legal_compare_law}
use Rattle.legal_groups.proofs.legal_compare_law.Goals as goal

pub returns : goal.returns
returns c = record { law = legal_compare_law }
