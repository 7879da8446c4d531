use Rattle.std.proofs.Common.{false}
use Rattle.gen_arith.proofs.calls.emit_msbc_in.Goals as goal

pub returns-clause-tells : goal.returns-clause-tells
returns-clause-tells g c = c.emit_truth.ensures.tells false
