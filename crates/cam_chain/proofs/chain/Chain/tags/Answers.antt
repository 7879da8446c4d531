use Rattle.std.proofs.Common.{ap}
use Rattle.cam_chain.specs.ChainValue.{ChainValue}
use Rattle.cam_chain.proofs.Words.{tag_place}
use Rattle.cam_chain.proofs.chain.Chain.tags.Goals as goal

pub returns-clause-bits : goal.returns-clause-bits
returns-clause-bits c = λ col h.
    tag_place c.args.self.now _ _ col _ (ap (λ (v : ChainValue). v.tags) c.self.view_is) c.self.invariant.tag_count c.index.ensures c.requires h
