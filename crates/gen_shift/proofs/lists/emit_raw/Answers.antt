use Rattle.std.proofs.Common.{arith}
use Rattle.gen_shift.proofs.Costs.{raw-measured, plain-size}
use Rattle.gen_shift.proofs.Families.{leaves-shift, width-most}
use Rattle.gen_shift.proofs.lists.emit_raw.Goals as goal

pub emit_shifting-requires-clause-room : goal.emit_shifting-requires-clause-room
emit_shifting-requires-clause-room g c = omega (arith, c.requires.room, plain-size c.args.kind g.W.Width.BITS g.W.Width.LOG)

pub returns-clause-spare : goal.returns-clause-spare
returns-clause-spare g c = omega (arith, c.emit_shifting.ensures.spare, plain-size c.args.kind g.W.Width.BITS g.W.Width.LOG)

pub returns-clause-leaves : goal.returns-clause-leaves
returns-clause-leaves g c = leaves-shift c.args.kind g.W.Width.BITS g.W.Width.LOG c.args.at.now g.met.W.Width.power c.requires.a c.requires.b

pub returns-clause-cost : goal.returns-clause-cost
returns-clause-cost g c =
    let at = c.args.at.now in
    raw-measured c.args.kind g.W.Width.BITS g.W.Width.LOG at.a at.b g.met.W.Width.power (width-most g.W.Width.BITS g.met.W.Width.divides)
