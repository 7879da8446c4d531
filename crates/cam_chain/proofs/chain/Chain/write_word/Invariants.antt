use Rattle.std.proofs.Common.{◌≡◌, length}
use Rattle.cam_chain.proofs.Words.{Writing}
use Rattle.cam_chain.proofs.chain.Chain.write_word.Given as goal

abbrev pub invariant-loop-sub : goal.invariant-loop-sub
invariant-loop-sub l = record {
  columns : l.self-inside.columns ≡ l.fn.self.columns;
  tags : l.self-inside.tags.items ≡ l.fn.self.tags;
  rows : Writing l.fn.self.columns l.fn.row l.col l.word l.fn.self.rows l.sub l.self-inside.rows.items;
  tag_count : length l.self-inside.tags.items ≡ 32;
  row_count : length l.self-inside.rows.items ≡ 2048;
  scratch : length l.self-inside.scratch ≡ l.fn.self.columns;
  counts : l.self-inside.counts ≡ l.fn.self.counts;
}
