use Rattle.std.proofs.Common.{◌≡◌, ◌+◌, ◌-◌}
use Rattle.guest_mem.specs.Laying.{granted}
use Rattle.guest_mem.proofs.page_list.PageList.grant_each.Given as goal

abbrev pub invariant-loop-more : goal.invariant-loop-more
invariant-loop-more l =
    granted l.fn.self l.perms.0 l.first l.count ≡ granted l.self l.perms.0 (l.first + l.more) (l.count - l.more)
