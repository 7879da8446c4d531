use Rattle.guest_mem.proofs.InPage.{range_in_page}
use Rattle.guest_mem.proofs.pages.Mem.bytes_in_page.Goals as goal

pub returns : goal.returns
returns c =
    let there = rw c.unwrap.ensures at c.page.ensures in
    range_in_page c.args.self.now.pages c.args.address c.args.len c.unwrap.result.now c.place.result c.range.result.now c.ranges.address.fits c.place.ensures c.requires.inside there c.range.ensures.bytes c.range.ensures.all
