use Rattle.steer_net.specs.declared.reach.Reach.TheVariants.{Before}
use Rattle.gen_reduce.proofs.Costs.{prefix-measured}
use Rattle.gen_reduce.proofs.MaskLaws.{prefix-marks}
use Rattle.gen_reduce.proofs.masks.emit_sbf.Goals as goal

pub returns-clause-cost : goal.returns-clause-cost
returns-clause-cost g c = prefix-measured c.args.at.now.a Before c.args.at.now.to c.requires.to

pub returns-clause-marks : goal.returns-clause-marks
returns-clause-marks g c = prefix-marks c.args.at.now.a Before c.args.at.now.to c.requires.to
