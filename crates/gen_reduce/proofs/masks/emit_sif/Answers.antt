use Rattle.steer_net.specs.declared.reach.Reach.TheVariants.{Upto}
use Rattle.gen_reduce.proofs.Costs.{prefix-measured}
use Rattle.gen_reduce.proofs.MaskLaws.{prefix-marks}
use Rattle.gen_reduce.proofs.masks.emit_sif.Goals as goal

pub returns-clause-cost : goal.returns-clause-cost
returns-clause-cost g c = prefix-measured c.args.at.now.a Upto c.args.at.now.to c.requires.to

pub returns-clause-marks : goal.returns-clause-marks
returns-clause-marks g c = prefix-marks c.args.at.now.a Upto c.args.at.now.to c.requires.to
