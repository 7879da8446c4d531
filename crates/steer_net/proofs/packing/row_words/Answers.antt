use Rattle.std.proofs.Common.{length, refl, arith}
use Rattle.steer_net.proofs.SubarrayRows.{copied}
use Rattle.steer_net.proofs.packing.row_words.Goals as goal

pub returns : goal.returns
returns g c k =
    let s = g.P.Planes.slices c.args.p.now in
    let words = c.words-row.ensures in
    rw c.copy_from_slice.ensures.after (copied s.columns (length c.words-row.result.now) 0 c.words-row.result.now (λ j. s.bit c.args.sub c.args.row j) refl refl (omega (arith, words.len)) words.bits words.past k)
