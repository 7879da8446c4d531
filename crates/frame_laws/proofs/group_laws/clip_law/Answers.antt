use Rattle.frame_laws.proofs.Clips.{clip_law}
use Rattle.frame_laws.proofs.group_laws.clip_law.Goals as goal

pub returns : goal.returns
returns c = record { law = clip_law }
