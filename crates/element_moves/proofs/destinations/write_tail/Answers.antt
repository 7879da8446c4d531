use Rattle.std.proofs.Common.{sym, ◌∙◌}
use Rattle.cam_chain.specs.ChainValue.{slices_of}
use Rattle.cam_chain.specs.Views.{registers_of}
use Rattle.element_moves.proofs.Filling.{tail-ones, tail-kept}
use Rattle.element_moves.proofs.destinations.write_tail.Goals as goal

pub returns-then-fills_tail-clause-vectors : goal.returns-then-fills_tail-clause-vectors
returns-then-fills_tail-clause-vectors c =
    c.fill_from.ensures.vectors ∙ tail-ones c.args.i.now c.args.cfg.now (registers_of (slices_of c.args.chain.now)) c.args.from (sym c.fills_tail.ensures ∙ c.if-fills_tail.true)

pub returns-else-fills_tail-clause-vectors : goal.returns-else-fills_tail-clause-vectors
returns-else-fills_tail-clause-vectors c =
    tail-kept c.args.i.now c.args.cfg.now (registers_of (slices_of c.args.chain.now)) c.args.from (sym c.fills_tail.ensures ∙ c.if-fills_tail.false)
