use Rattle.std.proofs.Common.{◌*◌, ◌/◌, ◌%◌, ◌^◌, get_or, arith}
use Rattle.register_bytes.proofs.Adding.{added-none, added-more, added-all, bits-are}
use Rattle.register_bytes.proofs.masks.add_plane.Goals as goal

pub loop-k-init : goal.loop-k-init
loop-k-init c = added-none c.args.words.now c.args.lane.now c.args.bit c.requires.all

pub loop-k-preserved : goal.loop-k-preserved
loop-k-preserved c =
    added-more c.args.words.now c.args.lane.now c.loop-k.lane c.spread.result c.args.bit c.loop-k.k (get_or c.args.words.now (c.loop-k.k / 8) 0 / 2 ^ (c.loop-k.k % 8 * 8) % 256) c.loop-k.invariant c.requires.bit c.requires.small (omega arith) c.spread.ensures.all c.spread.ensures.bits (bits-are (get_or c.args.words.now (c.loop-k.k / 8) 0) (c.loop-k.k % 8))

pub returns : goal.returns
returns c = added-all c.args.words.now c.args.lane.now c.loop-k.lane c.args.bit c.loop-k.k c.loop-k.invariant (omega arith)
