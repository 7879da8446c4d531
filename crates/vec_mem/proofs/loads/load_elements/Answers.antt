use Rattle.std.proofs.Common.{refl, sym, ◌∙◌, arith}
use Rattle.cam_chain.specs.ChainValue.{slices_of}
use Rattle.vec_mem.specs.Views.{vectors_of}
use Rattle.vec_mem.proofs.Numbering.{keeps-all, keeps-twice}
use Rattle.vec_mem.proofs.Loading.{stop-from-start, stop-past}
use Rattle.vec_mem.proofs.Looping.{come-start, come-step, stop-goes-on, stop-found, stopped-at, tail-all, tail-left}
use Rattle.vec_mem.proofs.loads.load_elements.Goals as goal

pub loop-e-init : goal.loop-e-init
unfolding slices_of
loop-e-init c = record {
  vectors = come-start c.args.cfg.now c.args.access.now (slices_of c.args.chain.now) c.requires.columns (omega (arith, c.requires.fits.wide, c.requires.columns)) c.requires.fits c.args.base c.args.mem.now.pages;
  stops = stop-from-start c.args.cfg.now c.args.access.now c.args.base (vectors_of c.args.chain.now) 4 c.args.mem.now.pages;
  rest = keeps-all (slices_of c.args.chain.now);
  columns = refl;
  counts = refl;
}

pub returns-in-Some-clause-stop : goal.returns-in-Some-clause-stop
unfolding slices_of
returns-in-Some-clause-stop c =
    let p = c.loop-e.invariant in
    sym (p.stops ∙ (stop-found c.args.cfg.now c.args.access.now (slices_of c.args.chain.now) c.requires.columns (omega (arith, c.requires.fits.wide, c.requires.columns)) c.requires.fits c.args.base c.args.mem.now.pages c.requires.load (vectors_of c.loop-e.chain) c.loop-e.e c.in-Some.address 4 p.vectors c.loop-e-test.true c.in-Some.ensures.bad).0)

pub returns-in-Some-clause-bad : goal.returns-in-Some-clause-bad
unfolding slices_of
returns-in-Some-clause-bad c =
    (stop-found c.args.cfg.now c.args.access.now (slices_of c.args.chain.now) c.requires.columns (omega (arith, c.requires.fits.wide, c.requires.columns)) c.requires.fits c.args.base c.args.mem.now.pages c.requires.load (vectors_of c.loop-e.chain) c.loop-e.e c.in-Some.address 4 c.loop-e.invariant.vectors c.loop-e-test.true c.in-Some.ensures.bad).1

pub returns-in-Some-clause-vectors : goal.returns-in-Some-clause-vectors
unfolding slices_of
returns-in-Some-clause-vectors c =
    let p = c.loop-e.invariant in
    c.in-Some.ensures.kept
    ∙ stopped-at c.args.cfg.now c.args.access.now (slices_of c.args.chain.now) c.requires.columns (omega (arith, c.requires.fits.wide, c.requires.columns)) c.requires.fits c.args.base c.args.mem.now.pages (vectors_of c.loop-e.chain) c.loop-e.e p.vectors
    (p.stops ∙ (stop-found c.args.cfg.now c.args.access.now (slices_of c.args.chain.now) c.requires.columns (omega (arith, c.requires.fits.wide, c.requires.columns)) c.requires.fits c.args.base c.args.mem.now.pages c.requires.load (vectors_of c.loop-e.chain) c.loop-e.e c.in-Some.address 4 p.vectors c.loop-e-test.true c.in-Some.ensures.bad).0)

pub loop-e-preserved : goal.loop-e-preserved
unfolding slices_of
loop-e-preserved c =
    let p = c.loop-e.invariant in
    record {
      vectors = come-step c.args.cfg.now c.args.access.now (slices_of c.args.chain.now) c.requires.columns (omega (arith, c.requires.fits.wide, c.requires.columns)) c.requires.fits c.args.base c.args.mem.now.pages c.requires.load (vectors_of c.loop-e.chain) (vectors_of c.load_element.new.chain) c.loop-e.e p.vectors c.loop-e.auto.e c.loop-e-test.true (c.load_element.ensures.moved c.in_default.is);
      stops = p.stops ∙ stop-goes-on c.args.cfg.now c.args.access.now (slices_of c.args.chain.now) c.requires.columns (omega (arith, c.requires.fits.wide, c.requires.columns)) c.requires.fits c.args.base c.args.mem.now.pages c.requires.load (vectors_of c.loop-e.chain) c.loop-e.e 4 p.vectors c.loop-e-test.true (sym c.in_default.is ∙ c.load_element.ensures.bad);
      rest = keeps-twice (slices_of c.args.chain.now) (slices_of c.loop-e.chain) (slices_of c.load_element.new.chain) p.rest c.load_element.ensures.rest;
      columns = c.load_element.ensures.columns ∙ p.columns;
      counts = c.load_element.ensures.counts ∙ p.counts;
    }

pub returns-then-fills_tail-clause-stop : goal.returns-then-fills_tail-clause-stop
returns-then-fills_tail-clause-stop c = sym (c.loop-e.invariant.stops ∙ stop-past c.args.cfg.now c.args.access.now c.args.base (vectors_of c.args.chain.now) 4 c.args.mem.now.pages c.loop-e.e c.loop-e-test.false)

pub returns-then-fills_tail-clause-vectors : goal.returns-then-fills_tail-clause-vectors
unfolding slices_of
returns-then-fills_tail-clause-vectors c =
    let p = c.loop-e.invariant in
    tail-all c.args.cfg.now c.args.access.now (slices_of c.args.chain.now) c.requires.columns (omega (arith, c.requires.fits.wide, c.requires.columns)) c.requires.fits c.args.base c.args.mem.now.pages (vectors_of c.loop-e.chain) (vectors_of c.fill_tail.new.chain) c.loop-e.e p.vectors c.loop-e.auto.e-end c.loop-e-test.false (sym c.fills_tail.ensures ∙ c.if-fills_tail.true) c.fill_tail.ensures.vectors (p.stops ∙ stop-past c.args.cfg.now c.args.access.now c.args.base (vectors_of c.args.chain.now) 4 c.args.mem.now.pages c.loop-e.e c.loop-e-test.false)

pub returns-clause-stop : goal.returns-clause-stop
returns-clause-stop c = sym (c.loop-e.invariant.stops ∙ stop-past c.args.cfg.now c.args.access.now c.args.base (vectors_of c.args.chain.now) 4 c.args.mem.now.pages c.loop-e.e c.loop-e-test.false)

pub returns-clause-vectors : goal.returns-clause-vectors
unfolding slices_of
returns-clause-vectors c =
    let p = c.loop-e.invariant in
    tail-left c.args.cfg.now c.args.access.now (slices_of c.args.chain.now) c.requires.columns (omega (arith, c.requires.fits.wide, c.requires.columns)) c.requires.fits c.args.base c.args.mem.now.pages (vectors_of c.loop-e.chain) c.loop-e.e p.vectors c.loop-e-test.false (sym c.fills_tail.ensures ∙ c.if-fills_tail.false) (p.stops ∙ stop-past c.args.cfg.now c.args.access.now c.args.base (vectors_of c.args.chain.now) 4 c.args.mem.now.pages c.loop-e.e c.loop-e-test.false)
