use Rattle.gen_perm.proofs.Moving.{width-some, width-lanes, puts-all, realises-scalar, single-measured}
use Rattle.gen_perm.proofs.calls.emit_single.Goals as goal

pub returns-clause-puts : goal.returns-clause-puts
returns-clause-puts g c =
    let w = g.W.Width.BITS in
    puts-all c.args.op.now w c.args.at.now.to (width-some w g.met.W.Width.least) (width-lanes w g.met.W.Width.divides) c.requires.to c.requires.window

pub returns-clause-realised : goal.returns-clause-realised
returns-clause-realised g c =
    let w = g.W.Width.BITS in
    realises-scalar w c.args.at.now.to (width-some w g.met.W.Width.least) (width-lanes w g.met.W.Width.divides) c.requires.to

pub returns-clause-measured : goal.returns-clause-measured
returns-clause-measured g c =
    let w = g.W.Width.BITS in
    single-measured c.args.op.now w c.args.at.now.to (width-some w g.met.W.Width.least) c.requires.to c.requires.window
