use Rattle.std.proofs.Common.{arith}
use Rattle.guest_mem.proofs.InPage.{range_in_page}
use Rattle.guest_mem.proofs.pages.Mem.range_in_page.Goals as goal

pub returns-clause-bytes : goal.returns-clause-bytes
returns-clause-bytes c =
    let there = rw c.in_ok-page.was at c.page.ensures in
    range_in_page c.args.self.now.pages c.args.address c.args.len c.in_ok-page.page.now c.place.result c.range.result.now c.ranges.address.fits c.place.ensures (omega arith) there c.range.ensures.bytes c.range.ensures.all
