use Rattle.gen_perm.proofs.Moving.{width-some, width-lanes, moves-all, realises-move, move-measured}
use Rattle.gen_perm.proofs.Rewriting.{slide-moves}
use Rattle.gen_perm.specs.Lists.{move_ops}
use Rattle.gen_perm.specs.Laws.{MovesAll}
use Rattle.gen_perm.proofs.calls.emit_slide.Goals as goal

pub returns-clause-moves : goal.returns-clause-moves
returns-clause-moves g c =
    let w = g.W.Width.BITS in
    let op = c.args.op.now in
    moves-all op w c.args.at.now.to (width-some w g.met.W.Width.least) (width-lanes w g.met.W.Width.divides) c.requires.to (slide-moves w op c.requires.slides)

pub returns-clause-realised : goal.returns-clause-realised
returns-clause-realised g c =
    let w = g.W.Width.BITS in
    let op = c.args.op.now in
    let to = c.args.at.now.to in
    let all : MovesAll op w to (move_ops w op to) = moves-all op w to (width-some w g.met.W.Width.least) (width-lanes w g.met.W.Width.divides) c.requires.to (slide-moves w op c.requires.slides) in
    realises-move op w to (move_ops w op to) (width-some w g.met.W.Width.least) all

pub returns-clause-measured : goal.returns-clause-measured
returns-clause-measured g c =
    let w = g.W.Width.BITS in
    let op = c.args.op.now in
    move-measured op w c.args.at.now.to (width-some w g.met.W.Width.least) c.requires.to (slide-moves w op c.requires.slides)
