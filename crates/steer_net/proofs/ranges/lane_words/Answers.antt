use Rattle.std.proofs.Common.{◌+◌, ◌*◌, ◌≤◌, ◌&&◌, ltb, refl, arith}
use Rattle.std.proofs.lemmas.Bool.{le-ltb}
use Rattle.bit_rows.specs.Words.{word_bit}
use Rattle.steer_net.specs.Rows.{is_one}
use Rattle.steer_net.proofs.Spans.{spelled_none, spelled_more, spelled_all, lane_word_bit}
use Rattle.steer_net.proofs.ranges.lane_words.Goals as goal

pub loop-i-init : goal.loop-i-init
loop-i-init c = spelled_none (λ k. ltb k c.args.columns && is_one c.args.ones (λ e. word_bit c.args.mask.now k) (c.args.number + k * c.args.step)) 32 0 refl refl

pub loop-i-preserved : goal.loop-i-preserved
loop-i-preserved c =
    let i = c.loop-i.i in
    spelled_more (λ k. ltb k c.args.columns && is_one c.args.ones (λ e. word_bit c.args.mask.now k) (c.args.number + k * c.args.step)) i _ c.loop-i.words c.loop-i.invariant (omega (arith, c.div_ceil-i-end.ensures))
    (λ j l. lane_word_bit c.args.ones c.count_below-start.result c.count_below.result c.min-end.result c.args.columns c.args.number c.args.step i j
    c.range_word.result c.chosen_bits.result c.range_word-in-loop-i.result c.all_bits.result c.args.mask.now l
    c.count_below-start.ensures c.count_below.ensures c.min-end.ensures (c.range_word.ensures j l) (c.chosen_bits.ensures j l) (c.range_word-in-loop-i.ensures j l) (c.all_bits.ensures j l))

pub returns : goal.returns
returns c = spelled_all (λ k. ltb k c.args.columns && is_one c.args.ones (λ e. word_bit c.args.mask.now k) (c.args.number + k * c.args.step)) c.loop-i.i c.loop-i.words c.loop-i.invariant
    (λ k h. let past : c.args.columns ≤ k = omega (arith, c.div_ceil-i-end.ensures) in rw (le-ltb k c.args.columns past) refl)
