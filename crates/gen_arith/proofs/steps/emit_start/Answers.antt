use Rattle.std.proofs.Common.{sym, append-nil}
use Rattle.micro_ir.specs.Steps.{micro}
use Rattle.gen_arith.proofs.steps.emit_start.Goals as goal

pub returns-in-Zero-clause-ops : goal.returns-in-Zero-clause-ops
unfolding micro
returns-in-Zero-clause-ops g c = rw c.in-Zero.is (sym (append-nil _))
