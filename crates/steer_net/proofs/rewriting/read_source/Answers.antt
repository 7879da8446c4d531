use Rattle.std.proofs.Common.{◌<◌, arith, ◌∙◌}
use Rattle.std.proofs.lemmas.List.{length-set}
use Rattle.steer_net.proofs.Rewritten.{read_more}
use Rattle.steer_net.proofs.rewriting.read_source.Goals as goal

pub loop-sub-init : goal.loop-sub-init
loop-sub-init g c = record { len = c.told-subarrays; done = λ k l. absurd (omega arith) }

pub loop-sub-preserved : goal.loop-sub-preserved
loop-sub-preserved g c =
    let s = g.P.Planes.slices c.args.p.now in
    let inv = c.loop-sub.invariant in
    record {
      len = length-set c.loop-sub.subarrays c.loop-sub.sub c.source_words.result ∙ inv.len;
      done = λ k l. read_more c.loop-sub.subarrays c.source_words.result c.args.source c.args.width s c.loop-sub.sub k (rw inv.len c.loop-sub-test.true) l c.source_words.ensures (inv.done k);
    }

pub returns : goal.returns
returns g c k l = let m : k < c.loop-sub.sub = let t = c.loop-sub-test.false in omega arith in c.loop-sub.invariant.done k m
