use Rattle.steer_net.proofs.Mask.{Reading}
use Rattle.steer_net.proofs.columns.row_word.Given as goal

abbrev pub invariant-loop-sub : goal.invariant-loop-sub
invariant-loop-sub g l = Reading (g.P.Planes.slices l.p) l.row l.col l.sub l.word
