use Rattle.std.proofs.Common.{arith}
use Rattle.gen_fixed.proofs.Costs.{test-measured}
use Rattle.gen_fixed.proofs.Families.{test-leaves, row-clips}
use Rattle.gen_fixed.proofs.narrow.emit_sat.Goals as goal

pub returns-clause-rows : goal.returns-clause-rows
returns-clause-rows g c = test-leaves g.W.Width.BITS c.args.at.now.a

pub returns-clause-clips : goal.returns-clause-clips
returns-clause-clips g c = let h = g.met.W.Width.least in row-clips g.W.Width.BITS c.args.at.now.a (omega arith) g.met.W.Width.divides

pub returns-clause-cost : goal.returns-clause-cost
returns-clause-cost g c = test-measured g.W.Width.BITS c.args.at.now.a
