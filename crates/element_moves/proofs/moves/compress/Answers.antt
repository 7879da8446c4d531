use Rattle.std.proofs.Common.{refl, ◌∙◌}
use Rattle.cam_chain.specs.ChainValue.{slices_of}
use Rattle.cam_chain.specs.Views.{registers_of}
use Rattle.element_moves.proofs.Counting.{count-none, count-most}
use Rattle.element_moves.proofs.Filling.{keeps-all, keeps-twice, registers-are, some-bytes}
use Rattle.element_moves.proofs.Moving.{pack-start, pack-more, pack-end}
use Rattle.element_moves.proofs.moves.compress.Goals as goal

pub loop-e-init : goal.loop-e-init
unfolding slices_of
loop-e-init c =
    let i = c.args.i.now in
    let cfg = c.args.cfg.now in
    let s = slices_of c.args.chain.now in
    record {
      to = count-none _;
      vectors = pack-start i cfg (registers_of s) c.requires.fits (registers-are cfg s c.requires.columns) (some-bytes i cfg c.requires.fits) c.requires.start c.requires.source c.requires.mask;
      rest = keeps-all s;
      columns = refl;
      counts = refl;
    }

pub take-to-requires-clause-place : goal.take-to-requires-clause-place
unfolding slices_of
take-to-requires-clause-place c = rw c.loop-e.invariant.to (count-most c.loop-e.e _)

pub loop-e-preserved : goal.loop-e-preserved
unfolding slices_of
loop-e-preserved c =
    let i = c.args.i.now in
    let cfg = c.args.cfg.now in
    let s = slices_of c.args.chain.now in
    let v = registers_of s in
    let u = registers_of (slices_of c.loop-e.chain) in
    let are = registers-are cfg s c.requires.columns in
    let some = some-bytes i cfg c.requires.fits in
    let p = c.loop-e.invariant in
    let step = pack-more i cfg v c.requires.fits are some c.requires.start c.requires.source c.requires.mask u (registers_of (slices_of c.take-to.new.chain)) c.loop-e.e c.loop-e.to c.take-to.result p.vectors c.loop-e-test.true p.to c.take-to.ensures.vectors c.take-to.ensures.next in
    record {
      to = step.1;
      vectors = step.0;
      rest = keeps-twice s (slices_of c.loop-e.chain) (slices_of c.take-to.new.chain) p.rest c.take-to.ensures.rest;
      columns = c.take-to.ensures.columns ∙ p.columns;
      counts = c.take-to.ensures.counts ∙ p.counts;
    }

pub returns-clause-vectors : goal.returns-clause-vectors
unfolding slices_of
returns-clause-vectors c =
    let i = c.args.i.now in
    let cfg = c.args.cfg.now in
    let s = slices_of c.args.chain.now in
    pack-end i cfg (registers_of s) c.requires.fits (registers-are cfg s c.requires.columns) (some-bytes i cfg c.requires.fits) c.requires.start c.requires.source c.requires.mask (registers_of (slices_of c.loop-e.chain)) (registers_of (slices_of c.write_tail.new.chain)) c.loop-e.e c.loop-e.to
    c.loop-e.invariant.vectors c.loop-e-test.false c.loop-e.auto.e-end c.loop-e.invariant.to c.write_tail.ensures.vectors
