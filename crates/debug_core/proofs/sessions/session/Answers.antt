use Rattle.cape_io.specs.Views.{views}
use Rattle.debug_core.proofs.Whole.{nothing_answered}
use Rattle.debug_core.proofs.sessions.session.Goals as goal

pub returns-in-Err-clause-prefixes : goal.returns-in-Err-clause-prefixes
returns-in-Err-clause-prefixes g c = nothing_answered _ _ (views g.S.Source g.O.Sink g.E.Sink c.args.input.now c.args.out.now c.args.err.now)

pub returns-in-Err-new-clause-prefixes : goal.returns-in-Err-new-clause-prefixes
returns-in-Err-new-clause-prefixes g c = nothing_answered _ _ (views g.S.Source g.O.Sink g.E.Sink c.args.input.now c.args.out.now c.args.err.now)
