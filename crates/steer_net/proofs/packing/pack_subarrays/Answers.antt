use Rattle.std.proofs.Common.{◌≡◌, ℕ, ◌+◌, ◌*◌, ◌&&◌, Bool, ltb, refl, ap, ◌∙◌, arith}
use Rattle.bit_rows.specs.Slices.{Slices}
use Rattle.bit_rows.specs.Words.{word_bit}
use Rattle.steer_net.specs.Network.{position}
use Rattle.steer_net.specs.Rows.{partly, spans, packed_bit}
use Rattle.steer_net.proofs.LaneRows.{lanes_all}
use Rattle.steer_net.proofs.Packed.{by_packed}
use Rattle.steer_net.proofs.SubarrayRows.{subarray_bits, packed_kept}
use Rattle.steer_net.proofs.packing.pack_subarrays.Goals as goal

pub packed_words-words-requires-clause-reach : goal.packed_words-words-requires-clause-reach
packed_words-words-requires-clause-reach g c =
    let same = ap (λ (u : Slices). u.columns) c.loop-sub.invariant.slices in
    rw same c.requires.reach

pub loop-sub-preserved : goal.loop-sub-preserved
loop-sub-preserved g c =
    let s = g.P.Planes.slices c.args.p.now in
    let sub = c.loop-sub.sub in
    let inv = c.loop-sub.invariant in
    let words = c.packed_words-words.result in
    let what = λ (n : ℕ). packed_bit c.args.from c.args.under c.args.to c.args.width c.args.first s n in
    let new = λ (k col : ℕ). what (0 + position 1 k col) in
    let told : (k : ℕ) → word_bit words k ≡ (ltb k s.columns && what (k * 32 + sub)) =
    λ k. c.packed_words-words.ensures k
    ∙ ap (λ (u : Slices). ltb k u.columns && packed_bit c.args.from c.args.under c.args.to c.args.width c.args.first u (k * 32 + sub)) inv.slices
    ∙ ap (λ (b : Bool). ltb k s.columns && b) (packed_kept c.args.from c.args.under c.args.to c.args.width c.args.first sub k new s c.requires.apart_from c.requires.apart_under c.loop-sub-test.true) in
    record {
      slices = c.write_lane.ensures.slices ∙ ap (partly (spans sub (sub + 1)) c.args.to (λ k col. word_bit words col)) inv.slices ∙ subarray_bits c.args.to sub words what s told;
      searches = c.write_lane.ensures.searches ∙ inv.searches;
      updates = c.write_lane.ensures.updates ∙ inv.updates;
      passes = c.write_lane.ensures.passes ∙ inv.passes;
    }

pub returns-clause-slices : goal.returns-clause-slices
returns-clause-slices g c =
    let s = g.P.Planes.slices c.args.p.now in
    let what = λ (n : ℕ). packed_bit c.args.from c.args.under c.args.to c.args.width c.args.first s n in
    let e : c.loop-sub.sub ≡ 32 = omega arith in
    c.loop-sub.invariant.slices ∙ lanes_all c.args.to 1 0 c.loop-sub.sub what s e ∙ by_packed c.args.from c.args.under c.args.to c.args.width c.args.first what s (λ i l. refl)
