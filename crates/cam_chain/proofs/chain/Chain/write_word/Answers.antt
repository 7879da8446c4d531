use Rattle.std.proofs.Common.{◌≡◌, ◌+◌, ◌*◌, ◌<◌, arith, ap, ◌∙◌, length, length-set}
use Rattle.cam_chain.specs.ChainValue.{ChainValue}
use Rattle.cam_chain.proofs.Words.{write_more, written_all}
use Rattle.cam_chain.proofs.chain.Chain.write_word.Goals as goal

pub loop-sub-preserved : goal.loop-sub-preserved
loop-sub-preserved c =
    let p = c.loop-sub.invariant in
    let inside : c.loop-sub.sub * 64 + c.args.row < length c.loop-sub.self-inside.rows.items = omega arith in
    record {
      columns = p.columns;
      tags = p.tags;
      rows = write_more _ _ _ _ _ c.loop-sub.sub _ c.index_mut.result.now _ p.rows c.requires.row inside c.index_mut.ensures.value c.set.ensures;
      tag_count = p.tag_count;
      row_count = length-set _ _ _ ∙ p.row_count;
      scratch = p.scratch;
      counts = p.counts;
    }

pub returns-clause-slices : goal.returns-clause-slices
returns-clause-slices c =
    let p = c.loop-sub.invariant in
    let e : c.loop-sub.sub ≡ 32 = omega arith in
    let same = ap (λ (v : ChainValue). v.rows) c.self.view_is in
    written_all c.args.self.now _ _ _ _ c.requires.row c.requires.column (rw (← same) c.self.invariant.row_count)
    (rw (← c.self.view_is) c.self.invariant.rows_long) p.columns p.tags (rw e at p.rows)
