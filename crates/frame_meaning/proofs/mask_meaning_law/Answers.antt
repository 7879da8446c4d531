use Rattle.frame_meaning.proofs.Meaning.{mask_meaning_law}
use Rattle.frame_meaning.proofs.mask_meaning_law.Goals as goal

pub returns : goal.returns
returns c = record { law = mask_meaning_law }
