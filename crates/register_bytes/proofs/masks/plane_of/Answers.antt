use Rattle.std.proofs.Common.{refl, arith}
use Rattle.std.proofs.lemmas.Simd.{length-chunk}
use Rattle.register_bytes.proofs.Planes.{holds-none, holds-more, holds-all}
use Rattle.register_bytes.proofs.masks.plane_of.Goals as goal

pub loop-k-init : goal.loop-k-init
loop-k-init c = holds-none c.args.lane.now c.args.bit 0 refl

pub bits_of_lanes-requires-clause-all : goal.bits_of_lanes-requires-clause-all
bits_of_lanes-requires-clause-all c = length-chunk _ 64 c.args.lane.now (omega arith)

pub loop-k-preserved : goal.loop-k-preserved
loop-k-preserved c =
    holds-more c.args.lane.now c.loop-k.words c.args.bit c.loop-k.k c.bits_of_lanes.result c.loop-k.invariant (omega arith) c.bits_of_lanes.ensures

pub returns-clause-bits : goal.returns-clause-bits
returns-clause-bits c = holds-all c.args.lane.now c.loop-k.words c.args.bit c.loop-k.k c.loop-k.invariant (λ x above. c.requires.past x (omega arith))
