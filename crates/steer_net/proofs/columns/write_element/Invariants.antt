use Rattle.std.proofs.Common.{◌≡◌}
use Rattle.steer_net.specs.Rows.{partly, is_between}
use Rattle.steer_net.proofs.columns.write_element.Given as goal

abbrev pub invariant-loop-sub : goal.invariant-loop-sub
invariant-loop-sub g l = record {
  slices : g.P.Planes.slices l.p ≡ partly (is_between l.col l.low l.sub) l.row (λ sub c. l.bit) (g.P.Planes.slices l.fn.p);
  searches : g.P.Planes.searches l.p ≡ g.P.Planes.searches l.fn.p;
  updates : g.P.Planes.updates l.p ≡ g.P.Planes.updates l.fn.p;
  passes : g.P.Planes.passes l.p ≡ g.P.Planes.passes l.fn.p;
}
