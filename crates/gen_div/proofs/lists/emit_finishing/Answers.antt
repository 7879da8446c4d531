use Rattle.std.proofs.Common.{sym, append-nil}
use Rattle.micro_ir.specs.Steps.{micros}
use Rattle.gen_div.proofs.lists.emit_finishing.Goals as goal

pub returns-in-Divu-clause-ops : goal.returns-in-Divu-clause-ops
unfolding micros
returns-in-Divu-clause-ops g c = rw c.in-Divu.is (sym (append-nil _))

pub returns-in-Remu-clause-ops : goal.returns-in-Remu-clause-ops
unfolding micros
returns-in-Remu-clause-ops g c = rw c.in-Remu.is (sym (append-nil _))
