use Rattle.std.proofs.Common.{◌∙◌, ap, Box, Global}
use Rattle.std.specs.Prelude.{None}
use Rattle.std.specs.FinMap as map
use Rattle.guest_mem.specs.Pages.{Page, Pages, joined}
use Rattle.guest_mem.proofs.Finding.{boxed-insert, boxed-index}
use Rattle.guest_mem.proofs.page_list.PageList.add.Goals as goal

pub invariant_of-self-2 : goal.invariant_of-self-2
invariant_of-self-2 c =
    let l = c.self.inside in
    let value = λ (b : Box Page Global). b.value in
    let place = c.lower_bound-at.ensures in
    let inside = rw c.deref.ensures.value at place.inside in
    let below = rw c.deref.ensures.value at place.below in
    let above = rw c.deref.ensures.value at place.above in
    rw (c.in_ok-insert-2.ensures.items, c.in_ok-insert.ensures.items, c.reserve.ensures.items)
    (boxed-index value l.numbers.items l.pages.items c.args.number c.lower_bound-at.result c.in_ok-page.page c.self.invariant inside below above (rw (← c.self.view_is) at c.requires))

pub returns-clause-page : goal.returns-clause-page
returns-clause-page c =
    let l = c.self.inside in
    let n = c.args.number in
    let p = joined None c.args.perms.0 in
    let value = λ (b : Box Page Global). b.value in
    let inside = rw c.deref.ensures.value at c.lower_bound-at.ensures.inside in
    let more = boxed-insert value l.numbers.items l.pages.items n c.lower_bound-at.result c.in_ok-page.page p c.self.invariant inside (c.in_ok-page.ensures.ok ∙ c.zero.ensures) (rw (← c.self.view_is) at c.requires) in
    rw (c.in_ok-insert-2.ensures.items, c.in_ok-insert.ensures.items, c.reserve.ensures.items) (more ∙ ap (λ (m : Pages). map.insert m n p) c.self.view_is)
