use Rattle.std.proofs.Common.{◌<◌, arith}
use Rattle.gen_shift.proofs.Adding.{adds-mode}
use Rattle.gen_shift.proofs.modes.emit_mode.Goals as goal

pub returns-clause-adds : goal.returns-clause-adds
returns-clause-adds g c =
    let some : 0 < g.W.Width.BITS = let h = g.met.W.Width.least in omega arith in
    adds-mode g.W.Width.BITS c.args.mode c.args.quotient c.args.last c.args.more some c.requires.rows
