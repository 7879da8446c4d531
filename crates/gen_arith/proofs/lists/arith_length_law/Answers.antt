use Rattle.gen_arith.proofs.Families.{sum-few, truth-few}
use Rattle.gen_arith.proofs.lists.arith_length_law.Goals as goal

pub returns-clause-sums : goal.returns-clause-sums
returns-clause-sums c = sum-few

pub returns-clause-truths : goal.returns-clause-truths
returns-clause-truths c = truth-few
