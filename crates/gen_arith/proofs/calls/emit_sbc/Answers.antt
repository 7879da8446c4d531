use Rattle.std.proofs.Common.{false}
use Rattle.gen_arith.proofs.calls.emit_sbc.Goals as goal

pub returns-clause-realises : goal.returns-clause-realises
returns-clause-realises g c = c.emit_sum.ensures.realises false
