use Rattle.std.proofs.Common.{◌≤◌, ◌^◌, refl, ◌∙◌, arith}
use Rattle.cam_chain.specs.ChainValue.{slices_of}
use Rattle.cam_chain.specs.Views.{registers_of}
use Rattle.rvv_meaning.specs.Whole.{is_set}
use Rattle.element_moves.proofs.Counting.{count-none, count-most, count-step, one-most}
use Rattle.element_moves.proofs.Filling.{keeps-all, keeps-twice, registers-are, some-bytes}
use Rattle.element_moves.proofs.Moving.{count-start, count-more, count-end, same-set}
use Rattle.element_moves.proofs.moves.count_set.Goals as goal

pub loop-e-init : goal.loop-e-init
unfolding slices_of
loop-e-init c =
    let i = c.args.i.now in
    let cfg = c.args.cfg.now in
    let s = slices_of c.args.chain.now in
    record {
      below = count-none _;
      vectors = count-start i cfg (registers_of s) c.requires.fits (registers-are cfg s c.requires.columns) (some-bytes i cfg c.requires.fits) c.requires.start c.requires.source;
      rest = keeps-all s;
      columns = refl;
      counts = refl;
    }

-- the count is at most the number of the element
pub overflow_add-below : goal.overflow_add-below
overflow_add-below c =
    let most : c.loop-e.below ≤ c.loop-e.e = rw c.loop-e.invariant.below (count-most c.loop-e.e _) in
    let one : c.from-below.result ≤ 1 = rw c.from-below.ensures (one-most c.is_set-set.result) in
    let short : c.args.cfg.now.vl ≤ 2 ^ 16 = omega (arith, c.requires.fits.short, c.requires.fits.vlen) in
    omega (arith, c.loop-e-test.true)

pub loop-e-preserved : goal.loop-e-preserved
unfolding slices_of
loop-e-preserved c =
    let i = c.args.i.now in
    let cfg = c.args.cfg.now in
    let s = slices_of c.args.chain.now in
    let v = registers_of s in
    let u = registers_of (slices_of c.loop-e.chain) in
    let are = registers-are cfg s c.requires.columns in
    let some = some-bytes i cfg c.requires.fits in
    let p = c.loop-e.invariant in
    let set = same-set i cfg v c.requires.fits are some c.requires.start c.requires.source u c.loop-e.e c.is_set-set.result p.vectors c.loop-e-test.true (c.is_set-set.ensures cfg 0) in
    record {
      below = count-step c.loop-e.e c.loop-e.below c.from-below.result c.is_set-set.result (is_set i cfg 0 v) p.below set c.from-below.ensures;
      vectors = count-more i cfg v c.requires.fits are some c.requires.start c.requires.source u (registers_of (slices_of c.write_element.new.chain)) c.loop-e.e c.loop-e.below p.vectors c.loop-e-test.true p.below c.write_element.ensures.vectors;
      rest = keeps-twice s (slices_of c.loop-e.chain) (slices_of c.write_element.new.chain) p.rest c.write_element.ensures.rest;
      columns = c.write_element.ensures.columns ∙ p.columns;
      counts = c.write_element.ensures.counts ∙ p.counts;
    }

pub returns-clause-vectors : goal.returns-clause-vectors
unfolding slices_of
returns-clause-vectors c =
    let i = c.args.i.now in
    let cfg = c.args.cfg.now in
    let s = slices_of c.args.chain.now in
    count-end i cfg (registers_of s) c.requires.fits (registers-are cfg s c.requires.columns) (some-bytes i cfg c.requires.fits) c.requires.start c.requires.source (registers_of (slices_of c.loop-e.chain)) (registers_of (slices_of c.write_tail.new.chain)) c.loop-e.e
    c.loop-e.invariant.vectors c.loop-e-test.false c.loop-e.auto.e-end c.write_tail.ensures.vectors
