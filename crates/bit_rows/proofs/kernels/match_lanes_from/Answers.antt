use Rattle.std.proofs.Common.{◌≡◌, ◌+◌, ◌*◌, sym, arith, bit_xor}
use Rattle.bit_rows.specs.Words.{flip_of}
use Rattle.bit_rows.proofs.Words.{joined_splat, first_bits}
use Rattle.bit_rows.proofs.kernels.match_lanes_from.Goals as goal

pub loop-k-preserved : goal.loop-k-preserved
loop-k-preserved c =
    let e : (c.loop-k.k + 1) * 4 ≡ c.loop-k.k * 4 + 4 = omega arith in
    rw (e, c.flip_of-flip.ensures) (joined_splat bit_xor (flip_of c.args.want) 4 (c.loop-k.k * 4) c.args.into.now c.args.row.now c.loop-k.into c.loop-k.invariant (omega (arith, c.loop-k.auto.into)) (sym c.requires))

pub returns : goal.returns
returns c k l = first_bits c.args.want c.loop-i.i c.args.into.now c.args.row.now c.loop-i.into c.loop-i.invariant k (omega (arith, c.loop-i.auto.into))
