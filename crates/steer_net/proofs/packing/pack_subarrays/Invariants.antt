use Rattle.std.proofs.Common.{◌≡◌, ◌+◌}
use Rattle.steer_net.specs.Network.{position}
use Rattle.steer_net.specs.Rows.{partly, spans, packed_bit}
use Rattle.steer_net.proofs.packing.pack_subarrays.Given as goal

abbrev pub invariant-loop-sub : goal.invariant-loop-sub
invariant-loop-sub g l = record {
  slices : g.P.Planes.slices l.p
      ≡ partly (spans 0 l.sub) l.to (λ sub col. packed_bit l.from l.under l.to l.width l.first (g.P.Planes.slices l.fn.p) (0 + position 1 sub col)) (g.P.Planes.slices l.fn.p);
  searches : g.P.Planes.searches l.p ≡ g.P.Planes.searches l.fn.p;
  updates : g.P.Planes.updates l.p ≡ g.P.Planes.updates l.fn.p;
  passes : g.P.Planes.passes l.p ≡ g.P.Planes.passes l.fn.p;
}
