use Rattle.vec_exec.proofs.Written.{width-built, measured-spread, measured-signed}
use Rattle.vec_exec.proofs.laying.lay_out.Goals as goal

pub returns-then-group-clause-cost : goal.returns-then-group-clause-cost
returns-then-group-clause-cost g c =
    let group = c.args.group in
    let built = width-built g.W.Width.BITS g.W.Width.LOG g.met.W.Width.power g.met.W.Width.divides g.met.W.Width.least in
    rw c.if-group.true
    (measured-signed group.first group.times group.bits g.W.Width.BITS group.row c.args.register _ c.requires.layable built c.requires.row (rw c.at_rows-at.ensures.a at c.emit_sext.ensures.cost))

pub returns-else-group-clause-cost : goal.returns-else-group-clause-cost
returns-else-group-clause-cost g c =
    let group = c.args.group in
    let built = width-built g.W.Width.BITS g.W.Width.LOG g.met.W.Width.power g.met.W.Width.divides g.met.W.Width.least in
    rw c.if-group.false (measured-spread group.first group.times group.bits g.W.Width.BITS group.row c.args.register c.requires.layable built c.requires.row)
