use Rattle.std.proofs.Common.{◌<◌, ◌^◌, ◌/◌, ◌%◌, slice_index, refl}
use Rattle.steer_net.proofs.Copied.{whole_words, joined_words}
use Rattle.steer_net.proofs.copies.word_from.Goals as goal

pub returns-then-place-eq0 : goal.returns-then-place-eq0
returns-then-place-eq0 c j l = rw c.word_at.ensures (whole_words c.args.row.now c.args.start (c.args.start % 64) j refl c.if-place-eq0.true l)

pub returns-else-place-eq0 : goal.returns-else-place-eq0
returns-else-place-eq0 c j l =
    let small : slice_index c.args.row.now (c.args.start / 64) < 2 ^ 64 = rw (← c.word_at.ensures) c.word_at.type_inv in
    rw (c.word_at.ensures, c.word_at-else-place-eq0.ensures) (joined_words c.args.row.now c.args.start (c.args.start % 64) j refl l small)
