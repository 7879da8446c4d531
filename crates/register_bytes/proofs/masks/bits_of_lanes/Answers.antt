use Rattle.register_bytes.proofs.Planes.{lanes_bit}
use Rattle.register_bytes.proofs.masks.bits_of_lanes.Goals as goal

pub returns : goal.returns
returns c k inside = lanes_bit c.args.lanes c.args.bit k c.requires.all c.requires.bit inside
