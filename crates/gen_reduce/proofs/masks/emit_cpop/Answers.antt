use Rattle.gen_reduce.proofs.Costs.{every-is, cpop-measured}
use Rattle.gen_reduce.proofs.MaskLaws.{cpop-makes}
use Rattle.gen_reduce.proofs.masks.emit_cpop.Goals as goal

pub returns-clause-ops : goal.returns-clause-ops
returns-clause-ops g c = rw every-is c.push_counted.ensures.ops

pub returns-clause-cost : goal.returns-clause-cost
returns-clause-cost g c = cpop-measured c.args.at.now.a

pub returns-clause-number : goal.returns-clause-number
returns-clause-number g c = cpop-makes c.args.at.now.a
