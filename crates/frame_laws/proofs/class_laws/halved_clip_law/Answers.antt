use Rattle.frame_laws.proofs.Classes.HalvedClips.{halved_clip_law}
use Rattle.frame_laws.proofs.class_laws.halved_clip_law.Goals as goal

pub returns : goal.returns
returns c = record { law = halved_clip_law }
