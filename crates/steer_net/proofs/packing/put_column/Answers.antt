use Rattle.std.proofs.Common.{◌/◌, ◌<◌, arith}
use Rattle.bit_rows.proofs.Packed.{put_set, put_clear}
use Rattle.steer_net.proofs.packing.put_column.Goals as goal
use Rattle.steer_net.proofs.packing.put_column.Goals.{then-bit, else-bit}

pub returns : goal.returns
returns c i =
    let col = c.args.col in
    let inside : col / 64 < 32 = let h = c.requires in omega arith in
    elim c.if-bit.branch [
      | then-bit w ↦ rw (w.words-is, w.if-bit.true) (put_set c.args.words.now col i (rw c.told-words inside))
      | else-bit w ↦ rw (w.words-is, w.if-bit.false) (put_clear c.args.words.now col i (rw c.told-words inside))
    ]
