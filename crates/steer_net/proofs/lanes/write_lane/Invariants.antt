use Rattle.std.proofs.Common.{◌≡◌}
use Rattle.bit_rows.specs.Words.{word_bit}
use Rattle.steer_net.specs.Rows.{partly, spans}
use Rattle.steer_net.proofs.lanes.write_lane.Given as goal

abbrev pub invariant-loop-sub : goal.invariant-loop-sub
invariant-loop-sub g l = record {
  slices : g.P.Planes.slices l.p ≡ partly (spans l.low l.sub) l.row (λ sub c. word_bit l.words c) (g.P.Planes.slices l.fn.p);
  searches : g.P.Planes.searches l.p ≡ g.P.Planes.searches l.fn.p;
  updates : g.P.Planes.updates l.p ≡ g.P.Planes.updates l.fn.p;
  passes : g.P.Planes.passes l.p ≡ g.P.Planes.passes l.fn.p;
}
