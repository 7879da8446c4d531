use Rattle.std.proofs.Common.{◌<◌, arith}
use Rattle.std.proofs.lemmas.Bool.{lt-ltb}
use Rattle.reduce_tree.proofs.Bits.{put_one, put_zero, put_other}
use Rattle.reduce_tree.proofs.weights.weighted.Goals as goal

pub returns-then-some : goal.returns-then-some
returns-then-some c =
    let below : c.args.bit < 64 = omega arith in
    rw (c.in-Or.is, lt-ltb 0 c.args.count c.if-some.true) (put_one c.args.num c.args.bit below)

pub returns-then-some-2 : goal.returns-then-some-2
returns-then-some-2 c =
    let below : c.args.bit < 64 = omega arith in
    rw (c.in-Clear.is, lt-ltb 0 c.args.count c.if-some-2.true) (put_zero c.args.num c.args.bit c.ranges.num.fits below)

pub returns-then-odd : goal.returns-then-odd
returns-then-odd c =
    let below : c.args.bit < 64 = omega arith in
    rw c.in-Xor.is (put_other c.args.num c.args.bit c.args.count below c.if-odd.true)
