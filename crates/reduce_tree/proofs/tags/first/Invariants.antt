use Rattle.reduce_tree.proofs.FirstTags.{IsLeast}
use Rattle.reduce_tree.proofs.tags.first.Given as goal

abbrev pub invariant-loop-sub : goal.invariant-loop-sub
invariant-loop-sub g l = IsLeast l.sub l.least (g.P.Planes.slices l.p)
