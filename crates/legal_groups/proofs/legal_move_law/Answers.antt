use Rattle.legal_groups.proofs.Groups.{legal_move_law}
use Rattle.legal_groups.proofs.legal_move_law.Goals as goal

pub returns : goal.returns
returns c = record { law = legal_move_law }
