use Rattle.std.proofs.Common.{ℕ, sym, ◌∙◌, ap, arith}
use Rattle.cam_chain.specs.ChainValue.{slices_of}
use Rattle.cam_chain.specs.Views.{registers_of}
use Rattle.element_moves.specs.Steps.{put}
use Rattle.element_moves.proofs.Filling.{bit-room, element-room, as-put, as-ones, written-left, written-ones, written-kept}
use Rattle.element_moves.proofs.destinations.write_element.Goals as goal

pub is_left_in-requires : goal.is_left_in-requires
is_left_in-requires c = bit-room c.args.i.now c.args.cfg.now c.args.chain.now.columns c.args.e c.requires.fits c.requires.columns c.requires.element

pub set_element-requires-clause-place : goal.set_element-requires-clause-place
set_element-requires-clause-place c =
    element-room c.args.i.now c.args.cfg.now c.args.chain.now.columns c.element_size-size.result c.args.e c.requires.fits c.requires.columns c.element_size-size.ensures (omega (arith, c.requires.element, c.requires.fits.length))

pub returns-then-is_left_in-clause-vectors : goal.returns-then-is_left_in-clause-vectors
returns-then-is_left_in-clause-vectors c =
    let u = registers_of (slices_of c.args.chain.now) in
    c.set_element.ensures.vectors
    ∙ as-put c.args.i.now c.args.cfg.now c.args.chain.now.columns c.element_size-size.result u c.args.e c.args.value c.requires.fits c.requires.columns c.element_size-size.ensures
    ∙ written-left c.args.i.now c.args.cfg.now u c.args.e c.args.value (sym c.is_left_in.ensures ∙ c.if-is_left_in.true)

pub set_element-requires-then-fills_masked-clause-place : goal.set_element-requires-then-fills_masked-clause-place
set_element-requires-then-fills_masked-clause-place c =
    element-room c.args.i.now c.args.cfg.now c.args.chain.now.columns c.element_size-size.result c.args.e c.requires.fits c.requires.columns c.element_size-size.ensures (omega (arith, c.requires.element, c.requires.fits.length))

pub returns-then-fills_masked-clause-vectors : goal.returns-then-fills_masked-clause-vectors
returns-then-fills_masked-clause-vectors c =
    let u = registers_of (slices_of c.args.chain.now) in
    let i = c.args.i.now in
    let cfg = c.args.cfg.now in
    c.set_element-then-fills_masked.ensures.vectors
    ∙ as-put i cfg c.args.chain.now.columns c.element_size-size.result u c.args.e c.all_ones.result c.requires.fits c.requires.columns c.element_size-size.ensures
    ∙ ap (λ (z : ℕ). put i cfg u c.args.e z) (as-ones i cfg u c.element_size-size.result c.all_ones.result c.requires.fits c.element_size-size.ensures c.all_ones.ensures)
    ∙ written-ones i cfg u c.args.e c.args.value (sym c.is_left_in.ensures ∙ c.if-is_left_in.false) (sym c.fills_masked.ensures ∙ c.if-fills_masked.true)

pub returns-else-fills_masked-clause-vectors : goal.returns-else-fills_masked-clause-vectors
returns-else-fills_masked-clause-vectors c =
    written-kept c.args.i.now c.args.cfg.now (registers_of (slices_of c.args.chain.now)) c.args.e c.args.value (sym c.is_left_in.ensures ∙ c.if-is_left_in.false) (sym c.fills_masked.ensures ∙ c.if-fills_masked.false)
