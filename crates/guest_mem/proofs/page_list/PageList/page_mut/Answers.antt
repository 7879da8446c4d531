use Rattle.std.proofs.Common.{ap, ◌∙◌, sym, refl, inl, inr, map, Box, Global}
use Rattle.std.specs.FinMap as fin
use Rattle.guest_mem.specs.Pages.{Page, Pages}
use Rattle.guest_mem.proofs.Finding.{boxed-there, boxed-set, page-absent}
use Rattle.guest_mem.proofs.page_list.PageList.page_mut.Goals as goal

pub returns-in-Some : goal.returns-in-Some
returns-in-Some c =
    let l = c.self.inside in
    let n = c.args.number in
    let value = λ (b : Box Page Global). b.value in
    let here = rw c.deref.ensures.value at c.in-Some.ensures.found in
    let there = boxed-there value l.numbers.items l.pages.items n c.in-Some.at c.index_mut.result.now c.deref_mut.result.now c.self.invariant here c.index_mut.ensures.value c.deref_mut.ensures.value in
    let back = λ (p : Page). boxed-set value l.numbers.items l.pages.items n c.in-Some.at (record c.index_mut.result.now { value = p }) p c.self.invariant here refl ∙ ap (λ (m : Pages). fin.insert m n p) c.self.view_is in
    (λ i. inl (c.deref_mut.result.ghost_name, λ p. back p i), record { writes_back = tt; page = rw (← c.self.view_is) (sym there) })

pub returns-in-None : goal.returns-in-None
returns-in-None c =
    let l = c.self.inside in
    let nowhere = rw c.deref.ensures.value at c.in-None.ensures.absent in
    (ap inr c.self.view_is, record { writes_back = tt; page = rw (← c.self.view_is) (sym (page-absent l.numbers.items (map (λ (b : Box Page Global). b.value) l.pages.items) c.args.number nowhere)) })
