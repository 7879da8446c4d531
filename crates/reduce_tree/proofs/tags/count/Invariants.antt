use Rattle.std.proofs.Common.{◌≡◌, ◌*◌, ◌≤◌}
use Rattle.reduce_tree.proofs.Totals.{tags_below}
use Rattle.reduce_tree.proofs.tags.count.Given as goal

abbrev pub invariant-loop-sub : goal.invariant-loop-sub
invariant-loop-sub g l = record {
  counted : l.tags ≡ tags_below l.subs (g.P.Planes.slices l.p) l.sub;
  few : l.tags ≤ 2048 * l.sub;
}
