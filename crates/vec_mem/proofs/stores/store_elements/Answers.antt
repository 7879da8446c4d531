use Rattle.std.proofs.Common.{refl, sym, ◌∙◌, ap}
use Rattle.guest_mem.specs.Pages.{Memory}
use Rattle.vec_mem.specs.Views.{vectors_of}
use Rattle.vec_mem.proofs.Storing.{stores-start, stores-step, stores-found, stores-stopped, stores-done, same-memory}
use Rattle.vec_mem.proofs.stores.store_elements.Goals as goal

pub loop-e-init : goal.loop-e-init
loop-e-init c = record {
  stores = λ f. stores-start c.args.cfg.now c.args.access.now f c.args.base (vectors_of c.args.chain.now) c.args.mem.now.pages;
  heap = refl;
  heap_end = refl;
  brk = refl;
}

pub returns-in-Some-clause-stop : goal.returns-in-Some-clause-stop
returns-in-Some-clause-stop c =
    sym (stores-found c.args.cfg.now c.args.access.now c.requires.fits c.args.base (vectors_of c.args.chain.now) c.args.mem.now.pages c.loop-e.mem.pages c.loop-e.e c.in-Some.address (c.loop-e.invariant.stores c.requires.fits) c.loop-e-test.true c.in-Some.ensures.bad).0

pub returns-in-Some-clause-bad : goal.returns-in-Some-clause-bad
returns-in-Some-clause-bad c =
    (stores-found c.args.cfg.now c.args.access.now c.requires.fits c.args.base (vectors_of c.args.chain.now) c.args.mem.now.pages c.loop-e.mem.pages c.loop-e.e c.in-Some.address (c.loop-e.invariant.stores c.requires.fits) c.loop-e-test.true c.in-Some.ensures.bad).1

pub returns-in-Some-clause-pages : goal.returns-in-Some-clause-pages
returns-in-Some-clause-pages c =
    let p = c.loop-e.invariant in
    let s = p.stores c.requires.fits in
    c.in-Some.ensures.kept ∙ same-memory c.loop-e.mem c.args.mem.now _ (stores-stopped c.args.cfg.now c.args.access.now c.requires.fits c.args.base (vectors_of c.args.chain.now) c.args.mem.now.pages c.loop-e.mem.pages c.loop-e.e s (stores-found c.args.cfg.now c.args.access.now c.requires.fits c.args.base (vectors_of c.args.chain.now) c.args.mem.now.pages c.loop-e.mem.pages c.loop-e.e c.in-Some.address s c.loop-e-test.true c.in-Some.ensures.bad).0) p.heap p.heap_end p.brk

pub loop-e-preserved : goal.loop-e-preserved
loop-e-preserved c =
    let p = c.loop-e.invariant in
    let moved = c.store_element.ensures.moved c.in_default.is in
    record {
      stores = λ f. rw (ap (λ (m : Memory). m.pages) moved) (stores-step c.args.cfg.now c.args.access.now f c.args.base (vectors_of c.args.chain.now) c.args.mem.now.pages c.loop-e.mem.pages c.loop-e.e (p.stores f) c.loop-e-test.true (sym c.in_default.is ∙ c.store_element.ensures.bad));
      heap = ap (λ (m : Memory). m.heap) moved ∙ p.heap;
      heap_end = ap (λ (m : Memory). m.heap_end) moved ∙ p.heap_end;
      brk = ap (λ (m : Memory). m.brk) moved ∙ p.brk;
    }

pub returns-clause-stop : goal.returns-clause-stop
returns-clause-stop c = (stores-done c.args.cfg.now c.args.access.now c.requires.fits c.args.base (vectors_of c.args.chain.now) c.args.mem.now.pages c.loop-e.mem.pages c.loop-e.e (c.loop-e.invariant.stores c.requires.fits) c.loop-e-test.false).1

pub returns-clause-pages : goal.returns-clause-pages
returns-clause-pages c =
    let p = c.loop-e.invariant in
    same-memory c.loop-e.mem c.args.mem.now _ (stores-done c.args.cfg.now c.args.access.now c.requires.fits c.args.base (vectors_of c.args.chain.now) c.args.mem.now.pages c.loop-e.mem.pages c.loop-e.e (p.stores c.requires.fits) c.loop-e-test.false).0 p.heap p.heap_end p.brk
