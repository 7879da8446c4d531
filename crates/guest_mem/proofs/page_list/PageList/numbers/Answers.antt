use Rattle.std.proofs.Common.{map, Box, Global}
use Rattle.guest_mem.specs.Pages.{Page}
use Rattle.guest_mem.proofs.Finding.{contains-mapped}
use Rattle.guest_mem.proofs.page_list.PageList.numbers.Goals as goal

pub returns-clause-mapped : goal.returns-clause-mapped
returns-clause-mapped c =
    let l = c.self.inside in
    rw (c.deref.ensures.value, ← c.self.view_is) (λ n. contains-mapped l.numbers.items (map (λ (b : Box Page Global). b.value) l.pages.items) n c.self.invariant)
