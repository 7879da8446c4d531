use Rattle.std.proofs.Common.{◌≡◌, ◌∙◌, ◌+◌, ◌-◌, suc, sym, arith}
use Rattle.guest_mem.proofs.Laying.{granted-none, granted-more}
use Rattle.guest_mem.proofs.page_list.PageList.grant_each.Goals as goal

pub loop-more-preserved : goal.loop-more-preserved
loop-more-preserved c =
    let more : c.args.count - c.loop-more.more ≡ suc (c.args.count - (c.loop-more.more + 1)) = omega arith in
    let next : c.args.first + c.loop-more.more + 1 ≡ c.args.first + (c.loop-more.more + 1) = omega arith in
    c.loop-more.invariant ∙ rw (more, c.in_ok-grant.ensures.page, ← next) (granted-more c.loop-more.self c.args.perms.0 (c.args.first + c.loop-more.more) (c.args.count - (c.loop-more.more + 1)))

pub returns : goal.returns
returns c =
    let done : c.args.count - c.loop-more.more ≡ 0 = omega arith in
    sym (c.loop-more.invariant ∙ rw done (granted-none c.loop-more.self c.args.perms.0 (c.args.first + c.loop-more.more)))
