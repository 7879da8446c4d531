use Rattle.std.proofs.Common.{◌/◌, ◌<◌, arith}
use Rattle.steer_net.proofs.Packed.{put_set, put_clear}
use Rattle.steer_net.proofs.packing.put_bit.Goals as goal
use Rattle.steer_net.proofs.packing.put_bit.Goals.{then-bit, else-bit}

pub returns : goal.returns
returns c i =
    let number = c.args.number in
    let inside : number / 32 < 2048 = let h = c.requires in omega arith in
    elim c.if-bit.branch [
      | then-bit w ↦ rw (w.words-is, c.from-subarrays.ensures, w.if-bit.true) (put_set c.args.words.now number i (rw c.told-words inside))
      | else-bit w ↦ rw (w.words-is, c.from-subarrays.ensures, w.if-bit.false) (put_clear c.args.words.now number i (rw c.told-words inside))
    ]
