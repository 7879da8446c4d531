use Rattle.std.proofs.Common.{ap}
use Rattle.cam_chain.specs.ChainValue.{ChainValue}
use Rattle.cam_chain.proofs.Words.{row_place}
use Rattle.cam_chain.proofs.chain.Chain.row.Goals as goal

pub returns-clause-bits : goal.returns-clause-bits
returns-clause-bits c = λ col h.
    row_place c.args.self.now _ _ _ col _ (ap (λ (v : ChainValue). v.rows) c.self.view_is) c.self.invariant.row_count c.index.ensures c.requires.sub c.requires.row h
