use Rattle.std.proofs.Common.{◌≡◌}
use Rattle.steer_net.specs.Rows.{partly, spans}
use Rattle.steer_net.specs.Runs.{subarray_bit}
use Rattle.steer_net.proofs.rewriting.write_subarrays.Given as goal

abbrev pub invariant-loop-sub : goal.invariant-loop-sub
invariant-loop-sub g l = record {
  slices : g.P.Planes.slices l.p ≡ partly (spans 0 l.sub) l.row (subarray_bit l.subarrays) (g.P.Planes.slices l.fn.p);
  searches : g.P.Planes.searches l.p ≡ g.P.Planes.searches l.fn.p;
  updates : g.P.Planes.updates l.p ≡ g.P.Planes.updates l.fn.p;
  passes : g.P.Planes.passes l.p ≡ g.P.Planes.passes l.fn.p;
}
