use Rattle.std.proofs.Common.{◌≡◌, ◌+◌, ◌*◌, ◌||◌, refl, arith, bit_or}
use Rattle.bit_rows.proofs.Words.{joined_lanes, joined_bits, or_bit}
use Rattle.bit_rows.proofs.kernels.or_lanes.Goals as goal

pub loop-k-preserved : goal.loop-k-preserved
loop-k-preserved c =
    let e : (c.loop-k.k + 1) * 4 ≡ c.loop-k.k * 4 + 4 = omega arith in
    rw e (joined_lanes bit_or 4 (c.loop-k.k * 4) c.args.into.now c.args.with.now c.loop-k.into c.loop-k.invariant (omega (arith, c.loop-k.auto.into)) c.requires)

pub returns : goal.returns
returns c = joined_bits bit_or (λ x y. x || y) c.loop-i.i _ _ _ c.loop-i.invariant (omega (arith, c.loop-i.auto.into)) c.requires or_bit refl
