use Rattle.std.proofs.Common.{◌≡◌, eqb, arith, rules}
use Rattle.micro_ir.specs.Subs.{subs_of}
use Rattle.micro_ir.proofs.Subs.{lane-fits}
use Rattle.row_counts.proofs.counts.lane.Goals as goal

pub overflow_add-subs : goal.overflow_add-subs
overflow_add-subs c =
    let h = lane-fits c.args.width (λ i. eqb i c.args.bit) c.loop-sub.sub c.loop-sub.subs c.loop-sub-test.true c.loop-sub.invariant in search rules

pub returns : goal.returns
unfolding subs_of
returns c = let e : c.loop-sub.sub ≡ 32 = omega arith in rw e at c.loop-sub.invariant
