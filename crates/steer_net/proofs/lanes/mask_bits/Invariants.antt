use Rattle.std.proofs.Common.{◌+◌, ◌*◌, ◌&&◌, ltb}
use Rattle.steer_net.specs.Network.{bit_in}
use Rattle.steer_net.proofs.LaneRows.{MaskRead}
use Rattle.steer_net.proofs.lanes.mask_bits.Given as goal

abbrev pub invariant-loop-col : goal.invariant-loop-col
invariant-loop-col g l = MaskRead (λ c. ltb (l.number + c * l.step) (32 * (g.P.Planes.slices l.p).columns) && bit_in (g.P.Planes.slices l.p) 0 (l.number + c * l.step)) l.col l.words
