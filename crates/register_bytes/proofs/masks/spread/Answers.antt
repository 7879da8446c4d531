use Rattle.register_bytes.proofs.Planes.{spread_bit}
use Rattle.register_bytes.proofs.masks.spread.Goals as goal

pub returns-clause-bits : goal.returns-clause-bits
returns-clause-bits c k inside = spread_bit c.args.bits c.args.bit k c.requires.bit inside
