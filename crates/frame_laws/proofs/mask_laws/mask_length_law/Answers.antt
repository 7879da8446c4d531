use Rattle.frame_laws.proofs.Masks.Costs.{mask_length_law}
use Rattle.frame_laws.proofs.mask_laws.mask_length_law.Goals as goal

pub returns : goal.returns
returns c = record { law = mask_length_law }
