use Rattle.std.proofs.Common.{◌≡◌, ◌*◌, refl, ◌∙◌, arith}
use Rattle.cam_chain.specs.ChainValue.{slices_of}
use Rattle.cam_chain.specs.Views.{registers_of}
use Rattle.element_moves.proofs.Filling.{keeps-all, keeps-twice, registers-are, some-bytes, element-room, fill-start, fill-step, fill-end}
use Rattle.element_moves.proofs.destinations.fill_from.Goals as goal

pub loop-e-init : goal.loop-e-init
unfolding slices_of
loop-e-init c =
    let i = c.args.i.now in
    let cfg = c.args.cfg.now in
    let s = slices_of c.args.chain.now in
    record {
      vectors = fill-start i cfg (registers_of s) c.requires.fits (registers-are cfg s c.requires.columns) (some-bytes i cfg c.requires.fits) c.args.from;
      rest = keeps-all s;
      columns = refl;
      counts = refl;
    }

pub set_element-requires-clause-place : goal.set_element-requires-clause-place
set_element-requires-clause-place c =
    let cfg = c.args.cfg.now in
    let long : cfg.vlen ≡ 32 * c.loop-e.chain.columns = omega (arith, c.requires.columns, c.loop-e.invariant.columns) in
    element-room c.args.i.now cfg c.loop-e.chain.columns c.element_size-size.result c.loop-e.e c.requires.fits long c.element_size-size.ensures (omega (arith, c.loop-e-test.true, c.group_elements-e-end.ensures))

pub loop-e-preserved : goal.loop-e-preserved
unfolding slices_of
loop-e-preserved c =
    let i = c.args.i.now in
    let cfg = c.args.cfg.now in
    let s = slices_of c.args.chain.now in
    let p = c.loop-e.invariant in
    let long : cfg.vlen ≡ 32 * c.loop-e.chain.columns = omega (arith, c.requires.columns, p.columns) in
    record {
      vectors =
          fill-step i cfg (registers_of s) c.requires.fits (registers-are cfg s c.requires.columns) (some-bytes i cfg c.requires.fits) (registers_of (slices_of c.loop-e.chain)) (registers_of (slices_of c.set_element.new.chain)) c.args.from c.loop-e.e c.loop-e.chain.columns c.element_size-size.result c.all_ones-ones.result
          long c.element_size-size.ensures c.all_ones-ones.ensures p.vectors c.loop-e.auto.e (omega (arith, c.loop-e-test.true, c.group_elements-e-end.ensures)) c.set_element.ensures.vectors;
      rest = keeps-twice s (slices_of c.loop-e.chain) (slices_of c.set_element.new.chain) p.rest c.set_element.ensures.rest;
      columns = c.set_element.ensures.columns ∙ p.columns;
      counts = c.set_element.ensures.counts ∙ p.counts;
    }

pub returns-clause-vectors : goal.returns-clause-vectors
unfolding slices_of
returns-clause-vectors c =
    let i = c.args.i.now in
    let cfg = c.args.cfg.now in
    let s = slices_of c.args.chain.now in
    c.loop-e.invariant.vectors
    ∙ fill-end i cfg (registers_of s) c.requires.fits (registers-are cfg s c.requires.columns) (some-bytes i cfg c.requires.fits) c.args.from c.loop-e.e (omega (arith, c.loop-e-test.false, c.group_elements-e-end.ensures))
