use Rattle.std.proofs.Common.{◌≡◌, ◌+◌, ◌-◌, [], length, get_or, arith}
use Rattle.cam_chain.proofs.Rows.{up_start, up_next, even_long}
use Rattle.cam_chain.proofs.row_moves.move_up.Goals as goal

pub loop-k-init : goal.loop-k-init
loop-k-init c = up_start c.args.times c.args.rows.now

pub copy_up-requires : goal.copy_up-requires
copy_up-requires c = record {
  order = omega arith;
  room = omega (arith, c.loop-k.auto.rows);
  long = even_long (length (get_or c.args.rows.now 0 [])) c.loop-k.rows (c.loop-k.invariant.long (length (get_or c.args.rows.now 0 [])) c.requires.long);
}

pub loop-k-preserved : goal.loop-k-preserved
loop-k-preserved c = rw c.copy_up.ensures (up_next c.args.times c.loop-k.k _ _ c.args.rows.now c.loop-k.rows c.loop-k.invariant (omega arith) (omega arith) (omega arith))

pub returns-clause-moved : goal.returns-clause-moved
returns-clause-moved c s a b = c.loop-k.invariant.moved s (omega arith) b
