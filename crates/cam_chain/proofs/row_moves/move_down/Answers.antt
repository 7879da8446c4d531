use Rattle.std.proofs.Common.{◌≡◌, [], length, get_or, arith}
use Rattle.cam_chain.proofs.Rows.{down_start, down_next, even_long}
use Rattle.cam_chain.proofs.row_moves.move_down.Goals as goal

pub loop-k-init : goal.loop-k-init
loop-k-init c = down_start c.args.times c.args.rows.now

pub copy_down-requires : goal.copy_down-requires
copy_down-requires c = record {
  order = omega arith;
  room = omega (arith, c.loop-k.auto.rows);
  long = even_long (length (get_or c.args.rows.now 0 [])) c.loop-k.rows (c.loop-k.invariant.long (length (get_or c.args.rows.now 0 [])) c.requires.long);
}

pub loop-k-preserved : goal.loop-k-preserved
loop-k-preserved c = rw c.copy_down.ensures (down_next c.args.times c.loop-k.k c.args.rows.now c.loop-k.rows c.loop-k.invariant (omega arith))

pub returns-clause-moved : goal.returns-clause-moved
returns-clause-moved c s a = c.loop-k.invariant.moved s (omega arith)
