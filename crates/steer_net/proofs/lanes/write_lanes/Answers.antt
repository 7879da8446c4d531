use Rattle.std.proofs.Common.{◌≡◌, ℕ, ◌+◌, ◌*◌, ◌/◌, ◌&&◌, ltb, refl, ap, ◌∙◌, arith}
use Rattle.bit_rows.specs.Slices.{Slices}
use Rattle.bit_rows.specs.Words.{word_bit}
use Rattle.steer_net.specs.Network.{bit_in, position}
use Rattle.steer_net.specs.Rows.{is_one, partly, spans}
use Rattle.steer_net.proofs.Parts.{width-fills}
use Rattle.steer_net.proofs.LaneRows.{lane_more, lanes_all, lane_told, lane_mask, mask_kept, counts, in_row}
use Rattle.steer_net.proofs.lanes.write_lanes.Goals as goal

pub loop-lane-preserved : goal.loop-lane-preserved
loop-lane-preserved g c =
    let s = g.P.Planes.slices c.args.p.now in
    let t = g.P.Planes.slices c.loop-lane.p in
    let w = c.args.width in
    let ones = c.args.ones in
    let lane = c.loop-lane.lane in
    let inv = c.loop-lane.invariant in
    let words = c.lane_words-words.result in
    let mask = c.mask_lane-mask.result in
    let number = c.from.result + c.from-in-loop-lane.result in
    let same : t.columns ≡ s.columns = ap (λ (u : Slices). u.columns) inv.slices in
    let told : (k : ℕ) → word_bit words k ≡ (ltb k s.columns && is_one ones (bit_in s 0) (c.args.first + lane + k * (32 / w))) =
    λ k. lane_told ones (bit_in s 0) mask c.columns.result c.from-in-loop-lane-3.result number (c.args.first + lane + k * (32 / w)) s.columns k (word_bit words k)
    (c.columns.ensures.value ∙ same) (rw (c.from.ensures, c.from-in-loop-lane.ensures, c.from-in-loop-lane-3.ensures) refl) (c.lane_words-words.ensures k)
    (λ ne l from to. lane_mask s t mask number c.from-in-loop-lane-2.result (c.args.first + lane + k * (32 / w)) k same (rw (c.from.ensures, c.from-in-loop-lane.ensures, c.from-in-loop-lane-2.ensures) refl)
    (ap (λ (u : Slices). bit_in u 0 (c.args.first + lane + k * (32 / w))) inv.slices ∙ mask_kept c.args.row (c.args.first + lane + k * (32 / w)) (spans 0 (lane * w)) (λ sub col. is_one ones (bit_in s 0) (c.args.first + position w sub col)) s c.requires.apart)
    (c.mask_lane-mask.ensures (counts ones.on ones.off ne) k) l
    (c.requires.mask ne (c.args.first + lane + k * (32 / w)) (omega arith) (in_row w c.args.first lane k s.columns c.requires.width c.loop-lane-test.true l) from to)) in
    record {
      slices = c.write_lane.ensures.slices ∙ ap (partly (spans (lane * w) (lane * w + w)) c.args.row (λ sub k. word_bit words k)) inv.slices
          ∙ lane_more c.args.row w (32 / w) c.args.first lane words (is_one ones (bit_in s 0)) s refl (width-fills w c.requires.width).0 told;
      searches = c.write_lane.ensures.searches ∙ inv.searches;
      updates = c.write_lane.ensures.updates ∙ inv.updates;
      passes = c.write_lane.ensures.passes ∙ inv.passes;
    }

pub returns-clause-slices : goal.returns-clause-slices
returns-clause-slices g c =
    let w = c.args.width in
    let s = g.P.Planes.slices c.args.p.now in
    let e : c.loop-lane.lane ≡ 32 / w = omega arith in
    c.loop-lane.invariant.slices ∙ lanes_all c.args.row w c.args.first (c.loop-lane.lane * w) (is_one c.args.ones (bit_in s 0)) s (rw e (width-fills w c.requires.width).1)
