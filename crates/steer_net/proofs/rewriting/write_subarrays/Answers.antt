use Rattle.std.proofs.Common.{◌≡◌, ◌+◌, refl, ap, ◌∙◌, arith, [], get_or}
use Rattle.bit_rows.specs.Slices.{Slices}
use Rattle.bit_rows.specs.Words.{word_bit}
use Rattle.steer_net.specs.Rows.{partly, spans}
use Rattle.steer_net.specs.Runs.{subarray_bit}
use Rattle.steer_net.proofs.Rewritten.{write_more}
use Rattle.steer_net.proofs.rewriting.write_subarrays.Goals as goal

pub write_lane-requires-clause-trimmed : goal.write_lane-requires-clause-trimmed
write_lane-requires-clause-trimmed g c k l =
    let same = ap (λ (u : Slices). u.columns) c.loop-sub.invariant.slices in
    c.requires.trimmed c.loop-sub.sub c.loop-sub-test.true k (rw (← same) l)

pub loop-sub-preserved : goal.loop-sub-preserved
loop-sub-preserved g c =
    let s = g.P.Planes.slices c.args.p.now in
    let sub = c.loop-sub.sub in
    let inv = c.loop-sub.invariant in
    let subarrays = c.args.subarrays.now in
    let words = get_or subarrays sub [] in
    record {
      slices = c.write_lane.ensures.slices ∙ ap (partly (spans sub (sub + 1)) c.args.row (λ i k. word_bit words k)) inv.slices
          ∙ write_more c.args.row sub words (subarray_bit subarrays) s (λ k. refl);
      searches = c.write_lane.ensures.searches ∙ inv.searches;
      updates = c.write_lane.ensures.updates ∙ inv.updates;
      passes = c.write_lane.ensures.passes ∙ inv.passes;
    }

pub returns-clause-slices : goal.returns-clause-slices
returns-clause-slices g c =
    let e : c.loop-sub.sub ≡ 32 = let t = c.loop-sub-test.false in let m = c.loop-sub.auto.sub-end in omega arith in
    c.loop-sub.invariant.slices ∙ ap (λ n. partly (spans 0 n) c.args.row (subarray_bit c.args.subarrays.now) (g.P.Planes.slices c.args.p.now)) e
