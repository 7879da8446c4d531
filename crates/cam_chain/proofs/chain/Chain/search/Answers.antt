use Rattle.std.proofs.Common.{◌≡◌, refl, arith, ◌∙◌, length-set}
use Rattle.cam_chain.proofs.Searching.{searched_all, search_start, search_turn}
use Rattle.cam_chain.proofs.chain.Chain.search.Goals as goal

pub loop-rest-init : goal.loop-rest-init
loop-rest-init c = rw (← c.self.view_is) (record {
  columns = refl;
  rows = refl;
  tags = search_start c.self.inside.columns c.self.inside.rows.items c.args.subs c.args.keys.now c.args.join c.self.inside.tags.items c.self.invariant.tags_long;
  count = c.self.invariant.tag_count;
  scratch = c.self.invariant.scratch_long;
  counts = refl;
})

pub loop-rest-preserved : goal.loop-rest-preserved
loop-rest-preserved c =
    let p = c.loop-rest.invariant in
    record {
      columns = p.columns;
      rows = p.rows;
      tags = search_turn c.args.self.now.columns c.args.self.now.rows c.args.subs c.args.keys.now c.args.join c.args.self.now.tags c.loop-rest.rest c.lowest_of-sub.result c.without-rest.result
          c.loop-rest.self-inside.tags.items c.index_mut.result.now c.search_subarray.new.tags c.as_slice.result.now
          p.tags c.without-rest.ensures.others c.lowest_of-sub.ensures.chosen c.lowest_of-sub.ensures.within (omega (arith, p.count, c.lowest_of-sub.ensures.within))
          c.index_mut.ensures.value (c.as_slice.ensures.value ∙ p.rows) c.search_subarray.ensures.len c.search_subarray.ensures.each;
      count = length-set _ _ _ ∙ p.count;
      scratch = c.search_subarray.ensures.scratch ∙ p.scratch;
      counts = p.counts;
    }

pub returns-clause-slices : goal.returns-clause-slices
returns-clause-slices c =
    let p = c.loop-rest.invariant in
    searched_all c.args.self.now _ c.args.subs c.loop-rest.rest c.args.keys.now c.args.join p.columns p.rows c.loop-rest-test.false p.tags
