use Rattle.std.proofs.Common.{◌≡◌, ◌+◌, ltb}
use Rattle.steer_net.specs.Network.{position}
use Rattle.steer_net.specs.Rows.{partly, is_one, mask_bit}
use Rattle.steer_net.proofs.columns.write_row.Given as goal

abbrev pub invariant-loop-col : goal.invariant-loop-col
invariant-loop-col g l = record {
  slices : g.P.Planes.slices l.p
      ≡ partly (λ sub c. ltb c l.col) l.row (λ sub c. is_one l.ones (mask_bit l.mask) (l.first + position l.width sub c)) (g.P.Planes.slices l.fn.p);
  searches : g.P.Planes.searches l.p ≡ g.P.Planes.searches l.fn.p;
  updates : g.P.Planes.updates l.p ≡ g.P.Planes.updates l.fn.p;
  passes : g.P.Planes.passes l.p ≡ g.P.Planes.passes l.fn.p;
}
