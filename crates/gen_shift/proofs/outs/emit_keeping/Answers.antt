use Rattle.std.proofs.Common.{sym, append-nil, arith}
use Rattle.gen_shift.proofs.Written.{keeping-none}
use Rattle.gen_shift.proofs.outs.emit_keeping.Goals as goal

pub emit_outs-requires-clause-room : goal.emit_outs-requires-clause-room
emit_outs-requires-clause-room g c = rw c.if-keeps.true at c.requires.room

pub returns-then-keeps-clause-ops : goal.returns-then-keeps-clause-ops
returns-then-keeps-clause-ops g c = rw c.if-keeps.true c.emit_outs.ensures.ops

pub returns-then-keeps-clause-spare : goal.returns-then-keeps-clause-spare
returns-then-keeps-clause-spare g c = rw c.if-keeps.true c.emit_outs.ensures.spare

pub returns-else-keeps-clause-ops : goal.returns-else-keeps-clause-ops
returns-else-keeps-clause-ops g c = rw (c.if-keeps.false, keeping-none g.W.Width.BITS c.args.odd c.args.by) (sym (append-nil _))

pub returns-else-keeps-clause-spare : goal.returns-else-keeps-clause-spare
returns-else-keeps-clause-spare g c = rw c.if-keeps.false (omega arith)
