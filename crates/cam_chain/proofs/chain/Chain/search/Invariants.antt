use Rattle.std.proofs.Common.{◌≡◌, length}
use Rattle.cam_chain.proofs.Searching.{Searching}
use Rattle.cam_chain.proofs.chain.Chain.search.Given as goal

abbrev pub invariant-loop-rest : goal.invariant-loop-rest
invariant-loop-rest l = record {
  columns : l.self-inside.columns ≡ l.fn.self.columns;
  rows : l.self-inside.rows.items ≡ l.fn.self.rows;
  tags : Searching l.fn.self.columns l.fn.self.rows l.fn.subs l.keys l.join l.fn.self.tags l.rest l.self-inside.tags.items;
  count : length l.self-inside.tags.items ≡ 32;
  scratch : length l.self-inside.scratch ≡ l.fn.self.columns;
  counts : l.self-inside.counts ≡ l.fn.self.counts;
}

abbrev pub decreases-loop-rest : goal.decreases-loop-rest
decreases-loop-rest l = l.rest
