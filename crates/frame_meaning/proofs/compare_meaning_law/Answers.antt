use Rattle.frame_meaning.proofs.Masks.{compare_meaning_law}
use Rattle.frame_meaning.proofs.compare_meaning_law.Goals as goal

pub returns : goal.returns
returns c = record { law = compare_meaning_law }
