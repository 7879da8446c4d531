use Rattle.cam_chain.proofs.Rows.{MovedDown}
use Rattle.cam_chain.proofs.row_moves.move_down.Given as goal

abbrev pub invariant-loop-k : goal.invariant-loop-k
invariant-loop-k l = MovedDown l.times l.k l.fn.rows l.rows
