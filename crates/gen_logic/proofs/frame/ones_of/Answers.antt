use Rattle.std.proofs.Common.{◌≡◌, ◌<◌, ◌&&◌, ◌∙◌, arith, rules}
use lib.Dec.{ltb}
use Rattle.bit_laws.specs.Numbers.{bit_of}
use Rattle.micro_ir.specs.Subs.{subs_of}
use Rattle.micro_ir.proofs.Subs.{lane-fits}
use Rattle.gen_logic.proofs.FrameSteps.{ones-more, ones-none}
use Rattle.gen_logic.proofs.frame.ones_of.Goals as goal
use Rattle.gen_logic.proofs.frame.ones_of.Goals.{then-scalar-place-eq1, else-scalar-place-eq1}

pub overflow_add-subs : goal.overflow_add-subs
overflow_add-subs g c =
    let w = g.W.Width.BITS in
    let h = lane-fits w (λ j. ltb j w && bit_of c.args.scalar j) c.loop-sub.sub c.loop-sub.subs c.loop-sub-test.true c.loop-sub.invariant in search rules

pub returns : goal.returns
unfolding subs_of
returns g c = let e : c.loop-sub.sub ≡ 32 = omega arith in rw e at c.loop-sub.invariant

pub loop-sub-preserved : goal.loop-sub-preserved
loop-sub-preserved g c =
    let w = g.W.Width.BITS in
    let some : 0 < w = let h = g.met.W.Width.least in omega arith in
    let sub = c.loop-sub.sub in
    elim c.if-scalar-place-eq1.branch [
      | then-scalar-place-eq1 b ↦ b.subs-is ∙ ones-more w c.args.scalar sub c.loop-sub.subs some c.loop-sub-test.true (rw c.BITS.ensures at b.if-scalar-place-eq1.true) c.loop-sub.invariant
      | else-scalar-place-eq1 b ↦ b.subs-is ∙ ones-none w c.args.scalar sub c.loop-sub.subs some (rw c.BITS.ensures at b.if-scalar-place-eq1.false) c.loop-sub.invariant
    ]
