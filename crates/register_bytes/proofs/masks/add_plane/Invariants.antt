use Rattle.std.proofs.Common.{◌*◌}
use Rattle.register_bytes.proofs.Adding.{Added}
use Rattle.register_bytes.proofs.masks.add_plane.Given as goal

abbrev pub invariant-loop-k : goal.invariant-loop-k
invariant-loop-k l = Added l.words l.bit l.fn.lane (8 * l.k) l.lane
