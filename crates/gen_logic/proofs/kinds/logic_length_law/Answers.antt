use Rattle.gen_logic.proofs.Tables.{length-few}
use Rattle.gen_logic.proofs.kinds.logic_length_law.Goals as goal

pub returns : goal.returns
returns c = length-few
