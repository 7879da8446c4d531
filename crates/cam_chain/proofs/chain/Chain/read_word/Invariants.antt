use Rattle.cam_chain.proofs.Words.{Reading}
use Rattle.cam_chain.proofs.chain.Chain.read_word.Given as goal

abbrev pub invariant-loop-sub : goal.invariant-loop-sub
invariant-loop-sub l = Reading l.fn.self l.row l.col l.sub l.word
