use Rattle.std.proofs.Common.{◌≡◌, take, ap, ◌∙◌, arith}
use Rattle.bit_rows.specs.Slices.{words_written}
use Rattle.bit_rows.proofs.Packed.{bit-take}
use Rattle.steer_net.proofs.LaneRows.{subarray_more}
use Rattle.steer_net.proofs.lanes.write_lane.Goals as goal

pub loop-sub-preserved : goal.loop-sub-preserved
loop-sub-preserved g c =
    let s = g.P.Planes.slices c.args.p.now in
    let p = c.loop-sub.invariant in
    let m = c.div_ceil-count.result in
    let short = take m c.args.words.now in
    let n : c.columns.result ≡ s.columns = c.columns.ensures.value in
    record {
      slices = c.set_words.ensures.slices ∙ ap (words_written c.loop-sub.sub c.args.row short) p.slices
          ∙ subarray_more c.args.row c.loop-sub.sub c.args.low short c.args.words.now s (omega arith) (bit-take s.columns m c.args.words.now c.requires.trimmed (omega (arith, n, c.div_ceil-count.ensures)));
      searches = c.set_words.ensures.searches ∙ p.searches;
      updates = c.set_words.ensures.updates ∙ p.updates;
      passes = c.set_words.ensures.passes ∙ p.passes;
    }
