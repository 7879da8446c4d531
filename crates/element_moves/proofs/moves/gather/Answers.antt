use Rattle.std.proofs.Common.{◌≡◌, ◌*◌, refl, ◌∙◌, arith}
use Rattle.cam_chain.specs.ChainValue.{slices_of}
use Rattle.cam_chain.specs.Views.{registers_of}
use Rattle.element_moves.proofs.Filling.{keeps-all, keeps-twice, registers-are, some-bytes, read-room}
use Rattle.element_moves.proofs.Moving.{gather-start, gather-value, gather-more, gather-end}
use Rattle.element_moves.proofs.moves.gather.Goals as goal

pub loop-e-init : goal.loop-e-init
unfolding slices_of
loop-e-init c =
    let i = c.args.i.now in
    let cfg = c.args.cfg.now in
    let s = slices_of c.args.chain.now in
    record {
      vectors = gather-start i cfg (registers_of s) c.requires.fits (registers-are cfg s c.requires.columns) (some-bytes i cfg c.requires.fits) c.args.index_size c.requires.indices c.requires.source;
      rest = keeps-all s;
      columns = refl;
      counts = refl;
    }

pub element-index-requires-clause-place : goal.element-index-requires-clause-place
element-index-requires-clause-place c =
    let cfg = c.args.cfg.now in
    let long : cfg.vlen ≡ 32 * c.loop-e.chain.columns = omega (arith, c.requires.columns, c.loop-e.invariant.columns) in
    read-room c.args.i.now cfg c.loop-e.chain.columns c.args.index_size (8 * c.args.index_size) c.args.i.now.vs1 cfg.vl c.loop-e.e c.requires.indices long (omega arith) c.loop-e-test.true

pub loop-e-preserved : goal.loop-e-preserved
unfolding slices_of
loop-e-preserved c =
    let i = c.args.i.now in
    let cfg = c.args.cfg.now in
    let s = slices_of c.args.chain.now in
    let v = registers_of s in
    let u = registers_of (slices_of c.loop-e.chain) in
    let are = registers-are cfg s c.requires.columns in
    let some = some-bytes i cfg c.requires.fits in
    let p = c.loop-e.invariant in
    let long : cfg.vlen ≡ 32 * c.loop-e.chain.columns = omega (arith, c.requires.columns, p.columns) in
    let value =
    gather-value i cfg v c.requires.fits are some c.args.index_size c.requires.indices c.requires.source u c.loop-e.chain.columns c.loop-e.e c.vlmax-most.result c.element-index.result c.gathered-value.result
    long p.vectors c.loop-e-test.true c.vlmax-most.ensures c.element-index.ensures c.gathered-value.ensures in
    record {
      vectors =
          gather-more i cfg v c.requires.fits are some c.args.index_size c.requires.indices c.requires.source u (registers_of (slices_of c.write_element.new.chain)) c.loop-e.e c.gathered-value.result
          p.vectors c.loop-e.auto.e c.loop-e-test.true value c.write_element.ensures.vectors;
      rest = keeps-twice s (slices_of c.loop-e.chain) (slices_of c.write_element.new.chain) p.rest c.write_element.ensures.rest;
      columns = c.write_element.ensures.columns ∙ p.columns;
      counts = c.write_element.ensures.counts ∙ p.counts;
    }

pub returns-clause-vectors : goal.returns-clause-vectors
unfolding slices_of
returns-clause-vectors c =
    let i = c.args.i.now in
    let cfg = c.args.cfg.now in
    let s = slices_of c.args.chain.now in
    gather-end i cfg (registers_of s) c.requires.fits (registers-are cfg s c.requires.columns) (some-bytes i cfg c.requires.fits) c.args.index_size c.requires.indices c.requires.source (registers_of (slices_of c.loop-e.chain)) (registers_of (slices_of c.write_tail.new.chain)) c.loop-e.e
    c.loop-e.invariant.vectors c.loop-e.auto.e c.loop-e-test.false c.loop-e.auto.e-end c.write_tail.ensures.vectors
