use Rattle.std.proofs.Common.{sym}
use Rattle.guest_mem.proofs.Writing.{written-there, written-absent}
use Rattle.guest_mem.proofs.page_list.PageList.copy_in_page.Goals as goal

pub returns-in-Some : goal.returns-in-Some
returns-in-Some c =
    let there = rw c.page_number.ensures at (sym c.in-Some.ensures.page) in
    rw (c.page_number.ensures, c.overwrite.ensures, c.place.ensures) (sym (written-there c.args.self.now c.args.address c.args.bytes.now c.in-Some.page.now c.requires c.ranges.address.fits there))

pub returns-in_default : goal.returns-in_default
returns-in_default c =
    let absent = rw c.page_number.ensures at (sym (rw c.in_default.is at c.page_mut.ensures.page)) in
    sym (written-absent c.args.self.now c.args.address c.args.bytes.now c.requires c.ranges.address.fits absent)
