use Rattle.std.proofs.Common.{arith, ◌∙◌, sym}
use Rattle.report_texts.proofs.LayoutLemmas.{page_perms_more, union_taken, union_passed, union_done}
use Rattle.report_texts.proofs.layout.union_at.Goals as goal
use Rattle.report_texts.proofs.layout.union_at.Goals.{then-meets, else-meets}

pub loop-region-preserved : goal.loop-region-preserved
loop-region-preserved c =
    let more = page_perms_more c.args.regions.now c.loop-region.region-index c.region-item.result c.args.page (omega arith) c.region-item.is in
    elim c.if-meets.branch [
      | then-meets w ↦ rw (w.perms-is, w.insert.ensures tt) (union_taken c.loop-region.perms.0 _ c.region-item.result.perms.0 _ _ _ more c.loop-region.invariant (sym (rw c.span.ensures at c.meets.ensures) ∙ w.if-meets.true))
      | else-meets w ↦ rw w.perms-is (union_passed c.loop-region.perms.0 _ c.region-item.result.perms.0 _ _ _ more c.loop-region.invariant (sym (rw c.span.ensures at c.meets.ensures) ∙ w.if-meets.false))
    ]

pub returns : goal.returns
returns c = union_done c.args.regions.now c.loop-region.region-index c.loop-region.perms.0 _ c.args.page (omega arith) c.loop-region.invariant
