use Rattle.std.proofs.Common.{◌≡◌, arith, rules}
use Rattle.bit_laws.specs.Numbers.{bit_of}
use Rattle.micro_ir.specs.Subs.{subs_of}
use Rattle.micro_ir.proofs.Subs.{lane-fits}
use Rattle.micro_ir.proofs.replaying.chosen_subs.Goals as goal

pub overflow_add-subs : goal.overflow_add-subs
overflow_add-subs c =
    let h = lane-fits c.args.width (bit_of c.args.num) c.loop-sub.sub c.loop-sub.subs c.loop-sub-test.true c.loop-sub.invariant in search rules

pub returns : goal.returns
unfolding subs_of
returns c = let e : c.loop-sub.sub ≡ 32 = omega arith in rw e at c.loop-sub.invariant
