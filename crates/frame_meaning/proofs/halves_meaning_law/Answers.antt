use Rattle.frame_meaning.proofs.Halves.{halves_meaning_law}
use Rattle.frame_meaning.proofs.halves_meaning_law.Goals as goal

pub returns : goal.returns
returns c = record { law = halves_meaning_law }
