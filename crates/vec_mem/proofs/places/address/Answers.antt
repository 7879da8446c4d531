use Rattle.std.proofs.Common.{◌*◌, ℕ, sym, ◌∙◌, ap}
use Rattle.element_ops.specs.Elements.{element_of}
use Rattle.vec_mem.specs.Views.{vectors_of}
use Rattle.vec_mem.proofs.Loading.{step-address, index-address, index-fits, index-room}
use Rattle.vec_mem.proofs.places.address.Goals as goal

pub returns-in-Step : goal.returns-in-Step
returns-in-Step c = step-address c.args.cfg.now c.args.access.now c.args.base c.in-Step.step c.args.e (vectors_of c.args.chain.now) (sym c.in-Step.is)

pub element-requires-clause-size : goal.element-requires-clause-size
element-requires-clause-size c =
    let fits = index-fits c.args.cfg.now c.args.access.now c.args.access.now.offset c.in-Index.register c.in-Index.width c.in-Index.is c.requires.fits in
    rw c.from.ensures fits.size

pub element-requires-clause-place : goal.element-requires-clause-place
element-requires-clause-place c =
    let fits = index-fits c.args.cfg.now c.args.access.now c.args.access.now.offset c.in-Index.register c.in-Index.width c.in-Index.is c.requires.fits in
    rw c.from.ensures (index-room c.args.cfg.now c.args.access.now c.in-Index.register c.in-Index.width c.args.chain.now.columns c.args.e c.requires.columns fits c.requires.element)

pub element-requires-clause-register : goal.element-requires-clause-register
element-requires-clause-register c =
    (index-fits c.args.cfg.now c.args.access.now c.args.access.now.offset c.in-Index.register c.in-Index.width c.in-Index.is c.requires.fits).register

pub returns-in-Index : goal.returns-in-Index
returns-in-Index c =
    let fits = index-fits c.args.cfg.now c.args.access.now c.args.access.now.offset c.in-Index.register c.in-Index.width c.in-Index.is c.requires.fits in
    let read = c.element.ensures ∙ ap (λ (s : ℕ). element_of (4 * c.args.chain.now.columns) (vectors_of c.args.chain.now) c.in-Index.register (8 * s) c.args.e) c.from.ensures in
    index-address c.args.cfg.now c.args.access.now c.args.base c.in-Index.register c.in-Index.width c.args.chain.now.columns c.args.e c.element.result (vectors_of c.args.chain.now) (sym c.in-Index.is) c.requires.columns fits.whole read
