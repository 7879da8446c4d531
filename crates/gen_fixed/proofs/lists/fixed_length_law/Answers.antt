use Rattle.gen_fixed.proofs.Costs.{average-few, saturating-few}
use Rattle.gen_fixed.proofs.lists.fixed_length_law.Goals as goal

pub returns-clause-averages : goal.returns-clause-averages
returns-clause-averages c = average-few

pub returns-clause-sums : goal.returns-clause-sums
returns-clause-sums c = saturating-few
