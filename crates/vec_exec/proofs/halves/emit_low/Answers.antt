use Rattle.vec_exec.proofs.Written.{measured-narrow}
use Rattle.vec_exec.proofs.halves.emit_low.Goals as goal

pub returns-clause-cost : goal.returns-clause-cost
returns-clause-cost g c = measured-narrow c.args.from c.args.to g.D.Width.BITS c.args.half c.requires.from c.requires.to c.requires.wide c.requires.half
