use Rattle.std.proofs.Common.{◌*◌, refl, ◌∙◌, arith}
use Rattle.cam_chain.specs.ChainValue.{slices_of}
use Rattle.cam_chain.proofs.Registers.{are-registers_of}
use Rattle.vec_mem.specs.Runs.{byte_after}
use Rattle.vec_mem.specs.Views.{vectors_of}
use Rattle.vec_mem.proofs.Numbering.{keeps-all, keeps-twice}
use Rattle.vec_mem.proofs.RunBytes.{run-none}
use Rattle.vec_mem.proofs.RunSteps.{part-of-run, small-more, span-step}
use Rattle.vec_mem.proofs.runs.load_span.Goals as goal

pub loop-at-init : goal.loop-at-init
loop-at-init c = record {
  from = omega arith;
  within = c.requires.order;
  vectors = run-none (4 * c.args.chain.now.columns) (vectors_of c.args.chain.now) c.args.first c.args.from c.args.from (byte_after c.args.mem.now.pages c.args.base) (omega arith);
  bytes = λ p lower upper. absurd (omega arith);
  rest = keeps-all (slices_of c.args.chain.now);
  columns = refl;
  counts = refl;
}

pub load_part-requires-clause-may : goal.load_part-requires-clause-may
load_part-requires-clause-may c =
    part-of-run c.args.mem.now.pages 4 c.args.base c.args.from c.loop-at.at c.min-count.result c.args.to c.loop-at.invariant.from (omega arith) c.requires.may

pub loop-at-preserved : goal.loop-at-preserved
unfolding slices_of
loop-at-preserved c =
    let p = c.loop-at.invariant in
    let e = c.load_part.ensures in
    record {
      from = omega arith;
      within = omega arith;
      vectors = span-step c.loop-at.chain.columns c.columns-size.result c.args.chain.now.columns (vectors_of c.args.chain.now) (vectors_of c.loop-at.chain) (vectors_of c.load_part.new.chain) c.args.mem.now.pages c.args.first c.args.from c.loop-at.at c.min-count.result c.args.base p.columns c.columns-size.ensures.value (are-registers_of (slices_of c.args.chain.now)) p.from p.vectors e.vectors;
      bytes = small-more c.args.mem.now.pages c.args.base c.args.from c.loop-at.at c.min-count.result p.bytes e.bytes;
      rest = keeps-twice (slices_of c.args.chain.now) (slices_of c.loop-at.chain) (slices_of c.load_part.new.chain) p.rest e.rest;
      columns = e.columns ∙ p.columns;
      counts = e.counts ∙ p.counts;
    }
