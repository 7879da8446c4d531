use Rattle.frame_meaning.proofs.Clips.{elements_clip_law}
use Rattle.frame_meaning.proofs.elements_clip_law.Goals as goal

pub returns : goal.returns
returns c = record { law = elements_clip_law }
