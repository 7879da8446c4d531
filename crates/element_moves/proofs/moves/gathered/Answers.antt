use Rattle.element_moves.proofs.Filling.{read-room}
use Rattle.element_moves.proofs.moves.gathered.Goals as goal

pub element-requires-clause-place : goal.element-requires-clause-place
element-requires-clause-place c =
    read-room c.args.i.now c.args.cfg.now c.args.chain.now.columns c.element_size.result c.args.cfg.now.vtype.sew c.args.i.now.vs2 c.args.most c.args.index c.requires.source c.requires.columns c.element_size.ensures c.if-index-most.true
