use Rattle.std.proofs.Common.{sym, map, Box, Global}
use Rattle.guest_mem.specs.Pages.{Page}
use Rattle.guest_mem.proofs.Finding.{boxed-there, page-absent}
use Rattle.guest_mem.proofs.page_list.PageList.page.Goals as goal

pub returns-in-Some : goal.returns-in-Some
returns-in-Some c =
    let l = c.self.inside in
    let here = rw c.deref.ensures.value at c.in-Some.ensures.found in
    let there = boxed-there (λ (b : Box Page Global). b.value) l.numbers.items l.pages.items c.args.number c.in-Some.at c.index.result.now c.deref-in-Some.result.now c.self.invariant here c.index.ensures c.deref-in-Some.ensures in
    rw (← c.self.view_is) (sym there)

pub returns-in-None : goal.returns-in-None
returns-in-None c =
    let l = c.self.inside in
    let nowhere = rw c.deref.ensures.value at c.in-None.ensures.absent in
    rw (← c.self.view_is) (sym (page-absent l.numbers.items (map (λ (b : Box Page Global). b.value) l.pages.items) c.args.number nowhere))
