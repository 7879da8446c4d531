use Rattle.legal_groups.proofs.Laws.{legal_group_law}
use Rattle.legal_groups.proofs.legal_group_law.Goals as goal

pub returns : goal.returns
returns c = record { law = legal_group_law }
