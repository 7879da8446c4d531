use Rattle.std.proofs.Common.{sym}
use Rattle.guest_mem.proofs.Writing.{written-there, insert-same}
use Rattle.guest_mem.proofs.page_list.PageList.store_in_page.Goals as goal

pub returns-then-contains-clause-pages : goal.returns-then-contains-clause-pages
returns-then-contains-clause-pages c =
    let there = rw c.page_number.ensures at (sym c.in-Some.ensures.page) in
    rw (c.page_number.ensures, c.overwrite.ensures, c.place.ensures) (sym (written-there c.args.self.now c.args.address c.args.bytes.now c.in-Some.page.now c.requires c.ranges.address.fits there))

pub returns-else-contains-clause-pages : goal.returns-else-contains-clause-pages
returns-else-contains-clause-pages c = insert-same c.args.self.now c.page_number.result c.in-Some.page.now (sym c.in-Some.ensures.page)
