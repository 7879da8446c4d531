use Rattle.std.proofs.Common.{false}
use Rattle.gen_logic.proofs.calls.emit_merge.Goals as goal

pub returns-clause-realises : goal.returns-clause-realises
returns-clause-realises g c = c.emit_logic.ensures.realises false
