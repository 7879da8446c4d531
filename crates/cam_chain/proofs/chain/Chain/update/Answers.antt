use Rattle.std.proofs.Common.{◌≡◌, ◌+◌, ◌*◌, ◌<◌, length, refl, arith, ◌∙◌, ap, sym, length-set}
use Rattle.bit_rows.proofs.Rows.{zip_bit}
use Rattle.cam_chain.proofs.Rows.{lent_long}
use Rattle.cam_chain.proofs.Updating.{updated_all, update_start, update_one}
use Rattle.cam_chain.proofs.chain.Chain.update.Goals as goal

pub loop-rest-init : goal.loop-rest-init
loop-rest-init c = rw (← c.self.view_is) (record {
  columns = refl;
  tags = refl;
  rows = update_start c.self.inside.columns c.self.inside.tags.items c.args.subs c.args.row c.args.bit c.self.inside.rows.items c.self.invariant.rows_long;
  tag_count = c.self.invariant.tag_count;
  count = c.self.invariant.row_count;
  scratch = c.self.invariant.scratch_long;
  counts = refl;
})

pub loop-rest-preserved : goal.loop-rest-preserved
loop-rest-preserved c =
    let p = c.loop-rest.invariant in
    let sub = c.lowest_of-sub.result in
    let below : sub < 32 = c.lowest_of-sub.ensures.within in
    let inside : sub * 64 + c.args.row < length c.loop-rest.self-inside.rows.items = omega (arith, p.count, c.requires.row) in
    let tag_inside : sub < length c.args.self.now.tags = omega (arith, p.tag_count, ap length p.tags) in
    let row_long = lent_long _ _ _ _ p.rows.long inside c.index_mut.ensures.value in
    let tag_long = lent_long _ _ _ _ (rw (← c.self.view_is) c.self.invariant.tags_long) tag_inside (rw p.tags at c.index.ensures) in
    record {
      columns = p.columns;
      tags = p.tags;
      rows = update_one c.args.self.now.columns c.args.self.now.tags c.args.subs c.args.row c.args.bit c.args.self.now.rows c.loop-rest.rest sub c.without-rest.result
          c.loop-rest.self-inside.rows.items c.index_mut.result.now c.write_where.new.self c.index.result.now
          p.rows c.without-rest.ensures.others c.lowest_of-sub.ensures.chosen below c.requires.row inside c.index_mut.ensures.value
          (rw p.tags at c.index.ensures) tag_inside c.write_where.ensures.len (λ k l. zip_bit _ _ _ _ k c.write_where.ensures.bits (row_long ∙ sym tag_long) l);
      tag_count = p.tag_count;
      count = length-set _ _ _ ∙ p.count;
      scratch = p.scratch;
      counts = p.counts;
    }

pub returns-clause-slices : goal.returns-clause-slices
returns-clause-slices c =
    let p = c.loop-rest.invariant in
    updated_all c.args.self.now _ c.args.subs c.loop-rest.rest c.args.row c.args.bit c.requires.row p.columns p.tags c.loop-rest-test.false p.rows
