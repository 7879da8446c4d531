use Rattle.std.proofs.Common.{◌∙◌, sym}
use Rattle.guest_mem.proofs.Opening.{opened-none, opened-more, opened-all}
use Rattle.guest_mem.proofs.page_list.PageList.of_regions.Goals as goal

pub loop-region-init : goal.loop-region-init
loop-region-init c = rw c.new-pages.ensures (sym opened-none)

pub loop-region-preserved : goal.loop-region-preserved
loop-region-preserved c =
    let more = opened-more c.args.regions.now c.loop-region.region-index c.region-item.result c.loop-region-test.true c.region-item.is in
    rw (c.in_ok-lay.ensures, c.loop-region.invariant) (sym more)

pub returns : goal.returns
returns c = c.loop-region.invariant ∙ opened-all c.args.regions.now c.loop-region.region-index c.loop-region-test.false
