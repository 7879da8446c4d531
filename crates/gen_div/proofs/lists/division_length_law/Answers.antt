use Rattle.gen_div.proofs.Costs.{division-few}
use Rattle.gen_div.proofs.lists.division_length_law.Goals as goal

pub returns : goal.returns
returns c = division-few
