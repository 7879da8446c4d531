-- The same cost, and the same length said otherwise.
use Rattle.std.proofs.Common.{◌≡◌, ℕ, List, ◌∙◌}
use Rattle.cam_chain.specs.declared.counts.Counts.{Counts}
use Rattle.micro_ir.specs.declared.op.MicroOp.{MicroOp}
use Rattle.micro_ir.specs.Measures.{Measured}

pub measured-as : (all : Counts) (m n : ℕ) (ops : List MicroOp) → m ≡ n → Measured all m ops → Measured all n ops
measured-as all m n ops same is = record { cost = is.cost; count = is.count ∙ same; range = is.range }
