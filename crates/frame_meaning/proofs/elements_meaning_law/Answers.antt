use Rattle.frame_meaning.proofs.Instructions.{elements_meaning_law}
use Rattle.frame_meaning.proofs.elements_meaning_law.Goals as goal

pub returns : goal.returns
returns c = record { law = elements_meaning_law }
