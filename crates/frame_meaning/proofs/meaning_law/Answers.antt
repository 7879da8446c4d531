use Rattle.frame_meaning.proofs.Meaning.{meaning_law}
use Rattle.frame_meaning.proofs.meaning_law.Goals as goal

pub returns : goal.returns
returns c = record { law = meaning_law }
