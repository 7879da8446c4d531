use Rattle.frame_laws.proofs.Masks.Costs.{mask_tally_law}
use Rattle.frame_laws.proofs.mask_laws.mask_tally_law.Goals as goal

pub returns : goal.returns
returns c = record { law = mask_tally_law }
