use Rattle.cam_chain.proofs.Rows.{Clearing}
use Rattle.cam_chain.proofs.row_moves.shift_up.Given as goal

abbrev pub invariant-loop-i : goal.invariant-loop-i
invariant-loop-i l = Clearing 0 l.i l.initial.rows l.rows
