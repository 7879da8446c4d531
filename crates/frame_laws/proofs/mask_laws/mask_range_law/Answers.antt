use Rattle.frame_laws.proofs.Masks.Ranges.{mask_range_law}
use Rattle.frame_laws.proofs.mask_laws.mask_range_law.Goals as goal

pub returns : goal.returns
returns c = record { law = mask_range_law }
