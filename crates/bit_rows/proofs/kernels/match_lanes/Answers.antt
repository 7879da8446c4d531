use Rattle.std.proofs.Common.{◌≡◌, ◌+◌, ◌*◌, ◌&&◌, refl, sym, arith, bit_and, bit_xor}
use mathlib.Core.Bool.{beq}
use Rattle.bit_rows.specs.Words.{flip_of}
use Rattle.bit_rows.proofs.Words.{joined_lanes_with, joined_bits, match_bit}
use Rattle.bit_rows.proofs.kernels.match_lanes.Goals as goal

pub loop-k-preserved : goal.loop-k-preserved
loop-k-preserved c =
    let e : (c.loop-k.k + 1) * 4 ≡ c.loop-k.k * 4 + 4 = omega arith in
    rw (e, c.flip_of-flip.ensures) (joined_lanes_with bit_and bit_xor (flip_of c.args.want) 4 (c.loop-k.k * 4) c.args.into.now c.args.row.now c.loop-k.into c.loop-k.invariant (omega (arith, c.loop-k.auto.into)) (sym c.requires))

pub returns : goal.returns
returns c = joined_bits (λ a b. bit_and a (bit_xor b (flip_of c.args.want))) (λ x y. x && beq y c.args.want) c.loop-i.i _ _ _ c.loop-i.invariant (omega (arith, c.loop-i.auto.into)) (sym c.requires) (match_bit c.args.want) refl
