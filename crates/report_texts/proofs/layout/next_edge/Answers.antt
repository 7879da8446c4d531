use Rattle.std.proofs.Common.{arith}
use Rattle.std.proofs.lemmas.List.{take_all}
use Rattle.report_texts.proofs.LayoutLemmas.{steady_more, run_of_steady}
use Rattle.report_texts.proofs.layout.next_edge.Goals as goal

pub loop-region-preserved : goal.loop-region-preserved
loop-region-preserved c = record {
  later = omega arith;
  bound = omega arith;
  steady = rw c.min-edge.ensures (steady_more c.args.regions.now c.loop-region.region-index c.args.page c.loop-region.edge c.edge_after.result c.region-item.result (omega arith) c.region-item.is c.loop-region.invariant.steady c.edge_after.ensures.steady);
}

pub returns-clause-run : goal.returns-clause-run
returns-clause-run c =
    let all = take_all c.loop-region.region-index c.args.regions.now (omega arith) in
    run_of_steady c.args.regions.now c.args.page c.loop-region.edge (rw all at c.loop-region.invariant.steady)
