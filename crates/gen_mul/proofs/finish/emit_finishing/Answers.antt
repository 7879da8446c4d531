use Rattle.std.proofs.Common.{sym, append-nil}
use Rattle.micro_ir.specs.Steps.{micros}
use Rattle.gen_mul.proofs.finish.emit_finishing.Goals as goal

pub returns-in-Mul-clause-ops : goal.returns-in-Mul-clause-ops
unfolding micros
returns-in-Mul-clause-ops g c = rw c.in-Mul.is (sym (append-nil _))

pub returns-in-Mulhu-clause-ops : goal.returns-in-Mulhu-clause-ops
unfolding micros
returns-in-Mulhu-clause-ops g c = rw c.in-Mulhu.is (sym (append-nil _))
