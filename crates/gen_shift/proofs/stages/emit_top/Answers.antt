use Rattle.std.proofs.Common.{arith}
use Rattle.gen_shift.proofs.Fits.{top-stays}
use Rattle.gen_shift.proofs.stages.emit_top.Goals as goal

pub emit_rows-requires-clause-range : goal.emit_rows-requires-clause-range
emit_rows-requires-clause-range g c = rw c.BITS-width.ensures (top-stays g.W.Width.BITS c.args.by (let h = g.met.W.Width.least in omega arith))

pub returns-clause-ops : goal.returns-clause-ops
returns-clause-ops g c = rw c.BITS-width.ensures at c.emit_rows.ensures.ops
