use Rattle.frame_meaning.proofs.Clips.{halves_clip_law}
use Rattle.frame_meaning.proofs.halves_clip_law.Goals as goal

pub returns : goal.returns
returns c = record { law = halves_clip_law }
