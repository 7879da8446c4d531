use Rattle.std.proofs.Common.{ℕ, sym, ◌∙◌, ap, arith}
use Rattle.cam_chain.specs.ChainValue.{slices_of}
use Rattle.cam_chain.specs.Views.{registers_of}
use Rattle.element_moves.specs.Steps.{put}
use Rattle.element_moves.proofs.Filling.{read-room, element-room, as-read, as-put, taken-here, taken-not}
use Rattle.element_moves.proofs.moves.take.Goals as goal

pub returns-then-not-register_bit-clause-vectors : goal.returns-then-not-register_bit-clause-vectors
returns-then-not-register_bit-clause-vectors c =
    taken-not c.args.i.now c.args.cfg.now (registers_of (slices_of c.args.chain.now)) c.args.e c.args.to (sym c.register_bit.ensures ∙ c.if-not-register_bit.true)

pub element-value-requires-clause-place : goal.element-value-requires-clause-place
element-value-requires-clause-place c =
    read-room c.args.i.now c.args.cfg.now c.args.chain.now.columns c.element_size-size.result c.args.cfg.now.vtype.sew c.args.i.now.vs2 c.args.cfg.now.vl c.args.e c.requires.source c.requires.columns c.element_size-size.ensures c.requires.element

pub set_element-requires-clause-place : goal.set_element-requires-clause-place
set_element-requires-clause-place c =
    element-room c.args.i.now c.args.cfg.now c.args.chain.now.columns c.element_size-size.result c.args.to c.requires.fits c.requires.columns c.element_size-size.ensures (omega (arith, c.requires.place, c.requires.element, c.requires.fits.length))

pub returns-clause-vectors : goal.returns-clause-vectors
returns-clause-vectors c =
    let u = registers_of (slices_of c.args.chain.now) in
    let i = c.args.i.now in
    let cfg = c.args.cfg.now in
    c.set_element.ensures.vectors
    ∙ as-put i cfg c.args.chain.now.columns c.element_size-size.result u c.args.to c.element-value.result c.requires.fits c.requires.columns c.element_size-size.ensures
    ∙ ap (λ (z : ℕ). put i cfg u c.args.to z) (c.element-value.ensures ∙ as-read cfg c.args.chain.now.columns c.element_size-size.result cfg.vtype.sew u i.vs2 c.args.e c.requires.columns c.element_size-size.ensures c.requires.source.whole)
    ∙ taken-here i cfg u c.args.e c.args.to (sym c.register_bit.ensures ∙ c.if-not-register_bit.false)
