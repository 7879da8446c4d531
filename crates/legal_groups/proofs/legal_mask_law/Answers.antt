use Rattle.legal_groups.proofs.Laws.{legal_mask_law}
use Rattle.legal_groups.proofs.legal_mask_law.Goals as goal

pub returns : goal.returns
returns c = record { law = legal_mask_law }
