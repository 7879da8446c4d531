use Rattle.std.proofs.Common.{◌+◌, ◌-◌, ◌/◌, ◌<◌, length, arith}
use Rattle.guest_mem.proofs.Rising.{below-middle, above-middle}
use Rattle.guest_mem.proofs.searching.lower_bound.Goals as goal

pub loop-low-preserved-then-numbers-middle : goal.loop-low-preserved-then-numbers-middle
loop-low-preserved-then-numbers-middle c =
    let middle = c.loop-low.low + (c.loop-low.high - c.loop-low.low) / 2 in
    let within : middle < c.loop-low.high = omega arith in
    let inside : middle < length c.args.numbers.now = omega arith in
    record {
      order = omega arith;
      inside = c.loop-low.invariant.inside;
      below = below-middle c.args.numbers.now middle c.args.number c.requires inside c.if-numbers-middle.true;
      above = c.loop-low.invariant.above;
    }

pub loop-low-preserved : goal.loop-low-preserved
loop-low-preserved c =
    let middle = c.loop-low.low + (c.loop-low.high - c.loop-low.low) / 2 in
    record {
      order = omega arith;
      inside = omega arith;
      below = c.loop-low.invariant.below;
      above = above-middle c.args.numbers.now middle c.args.number c.requires c.if-numbers-middle.false;
    }
