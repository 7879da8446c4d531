use Rattle.cam_chain.proofs.Rows.{Clearing}
use Rattle.cam_chain.proofs.row_moves.shift_down.Given as goal

abbrev pub invariant-loop-i : goal.invariant-loop-i
invariant-loop-i l = Clearing l.kept l.i l.initial.rows l.rows
