use Rattle.gen_mul.proofs.Costs.{product-few}
use Rattle.gen_mul.proofs.lists.product_length_law.Goals as goal

pub returns : goal.returns
returns c = product-few
