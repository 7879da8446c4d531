use Rattle.std.proofs.Common.{◌≡◌, ◌+◌, ◌*◌, ◌/◌}
use Rattle.steer_net.specs.Rows.{partly, is_between, is_one, mask_bit}
use Rattle.steer_net.proofs.columns.write_column.Given as goal

abbrev pub invariant-loop-k : goal.invariant-loop-k
invariant-loop-k g l = record {
  slices : g.P.Planes.slices l.p
      ≡ partly (is_between l.col 0 (l.k * l.width)) l.row (λ sub c. is_one l.ones (mask_bit l.mask) (l.number + sub / l.width)) (g.P.Planes.slices l.fn.p);
  searches : g.P.Planes.searches l.p ≡ g.P.Planes.searches l.fn.p;
  updates : g.P.Planes.updates l.p ≡ g.P.Planes.updates l.fn.p;
  passes : g.P.Planes.passes l.p ≡ g.P.Planes.passes l.fn.p;
}
