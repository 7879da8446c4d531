use Rattle.std.proofs.Common.{◌-◌}
use Rattle.gen_shift.proofs.Costs.{ups-measured}
use Rattle.gen_shift.proofs.Extension.{extends-sign}
use Rattle.gen_shift.proofs.calls.emit_sext.Goals as goal

pub returns-clause-ops : goal.returns-clause-ops
returns-clause-ops g c = rw c.BITS.ensures at c.emit_ups.ensures.ops

pub returns-clause-extends : goal.returns-clause-extends
returns-clause-extends g c = extends-sign c.args.source g.W.Width.BITS c.args.at.now.a c.requires.some c.requires.source

pub returns-clause-cost : goal.returns-clause-cost
returns-clause-cost g c = ups-measured g.W.Width.BITS c.args.at.now.a (c.args.source - 1) (g.W.Width.BITS - c.args.source) c.requires.a
