use Rattle.std.proofs.Common.{length, arith, ◌∙◌, refl, ap}
use Rattle.cam_chain.proofs.Passing.{passed_up, same_items}
use Rattle.cam_chain.proofs.chain.Chain.pass_up.Goals as goal

pub invariant_of-self : goal.invariant_of-self
invariant_of-self c =
    let i = c.self.invariant in
    let ok = c.self.inside.tags.ok in
    let m = c.as_mut_slice.ensures in
    let len = c.shift_up.ensures.len in
    let e = same_items c.self.inside.tags.len c.shift_up.new.rows c.self.inside.tags.items (omega (arith, m.len, len)) (len ∙ ap length m.value) in
    rw e (record {
      some_columns = i.some_columns;
      few_columns = i.few_columns;
      row_count = i.row_count;
      tag_count = len ∙ ap length m.value ∙ i.tag_count;
      rows_long = i.rows_long;
      tags_long = c.shift_up.ensures.long c.self.inside.columns (rw m.value i.tags_long);
      scratch_long = i.scratch_long;
    })

pub returns-clause-slices : goal.returns-clause-slices
returns-clause-slices c =
    let i = c.self.invariant in
    let m = c.as_mut_slice.ensures in
    let len = c.shift_up.ensures.len in
    let ok = c.self.inside.tags.ok in
    let e = same_items c.self.inside.tags.len c.shift_up.new.rows c.self.inside.tags.items (omega (arith, m.len, len)) (len ∙ ap length m.value) in
    rw (← c.self.view_is) (passed_up _ _ c.args.times refl refl i.tag_count (rw e c.shift_up.ensures.vacated) (rw e (rw m.value at c.shift_up.ensures.moved)))
