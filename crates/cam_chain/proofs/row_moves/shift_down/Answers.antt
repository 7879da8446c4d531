use Rattle.std.proofs.Common.{arith}
use Rattle.cam_chain.proofs.Fresh.{zero_bit}
use Rattle.cam_chain.proofs.Rows.{clear_next}
use Rattle.cam_chain.proofs.row_moves.shift_down.Goals as goal

pub loop-i-preserved : goal.loop-i-preserved
loop-i-preserved c = clear_next _ _ _ _ _ c.index-rows-i.result c.loop-i.invariant (omega arith) (let e = c.loop-i.invariant.len in omega arith) c.clear.ensures.len (λ k. rw c.clear.ensures.bits (zero_bit _ k))

pub returns-clause-long : goal.returns-clause-long
returns-clause-long c = λ n h. c.loop-i.invariant.long n (c.move_down.ensures.long n h)
