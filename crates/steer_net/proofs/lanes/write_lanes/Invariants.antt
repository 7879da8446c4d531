use Rattle.std.proofs.Common.{◌≡◌, ◌+◌, ◌*◌}
use Rattle.steer_net.specs.Network.{position, bit_in}
use Rattle.steer_net.specs.Rows.{partly, spans, is_one}
use Rattle.steer_net.proofs.lanes.write_lanes.Given as goal

abbrev pub invariant-loop-lane : goal.invariant-loop-lane
invariant-loop-lane g l = record {
  slices : g.P.Planes.slices l.p
      ≡ partly (spans 0 (l.lane * l.width)) l.row (λ sub col. is_one l.ones (bit_in (g.P.Planes.slices l.fn.p) 0) (l.first + position l.width sub col)) (g.P.Planes.slices l.fn.p);
  searches : g.P.Planes.searches l.p ≡ g.P.Planes.searches l.fn.p;
  updates : g.P.Planes.updates l.p ≡ g.P.Planes.updates l.fn.p;
  passes : g.P.Planes.passes l.p ≡ g.P.Planes.passes l.fn.p;
}
