use Rattle.frame_laws.proofs.Masks.Frames.{mask_frame_law}
use Rattle.frame_laws.proofs.mask_laws.mask_frame_law.Goals as goal

pub returns : goal.returns
returns c = record { law = mask_frame_law }
