use Rattle.frame_laws.proofs.Masks.Bytes.{mask_law}
use Rattle.frame_laws.proofs.mask_laws.mask_law.Goals as goal

pub returns : goal.returns
returns c = record { law = mask_law }
