use Rattle.cam_chain.proofs.Rows.{MovedUp}
use Rattle.cam_chain.proofs.row_moves.move_up.Given as goal

abbrev pub invariant-loop-k : goal.invariant-loop-k
invariant-loop-k l = MovedUp l.times l.k l.fn.rows l.rows
