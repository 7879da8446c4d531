use Rattle.std.proofs.Common.{◌≡◌, length}
use Rattle.cam_chain.proofs.Updating.{Updating}
use Rattle.cam_chain.proofs.chain.Chain.update.Given as goal

abbrev pub invariant-loop-rest : goal.invariant-loop-rest
invariant-loop-rest l = record {
  columns : l.self-inside.columns ≡ l.fn.self.columns;
  tags : l.self-inside.tags.items ≡ l.fn.self.tags;
  rows : Updating l.fn.self.columns l.fn.self.tags l.fn.subs l.fn.row l.bit l.fn.self.rows l.rest l.self-inside.rows.items;
  tag_count : length l.self-inside.tags.items ≡ 32;
  count : length l.self-inside.rows.items ≡ 2048;
  scratch : length l.self-inside.scratch ≡ l.fn.self.columns;
  counts : l.self-inside.counts ≡ l.fn.self.counts;
}

abbrev pub decreases-loop-rest : goal.decreases-loop-rest
decreases-loop-rest l = l.rest
