use Rattle.frame_laws.proofs.Classes.PlainClips.{plain_clip_law}
use Rattle.frame_laws.proofs.class_laws.plain_clip_law.Goals as goal

pub returns : goal.returns
returns c = record { law = plain_clip_law }
