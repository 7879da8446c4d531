use Rattle.std.proofs.Common.{arith}
use Rattle.gen_logic.proofs.Tables.{some-values, operands-rows, operand-row}
use Rattle.gen_logic.proofs.kinds.emit_made.Goals as goal

pub emit_everywhere-requires-clause-rows : goal.emit_everywhere-requires-clause-rows
emit_everywhere-requires-clause-rows c = rw c.inputs-count.ensures.rows (operands-rows c.args.kind c.args.a c.args.b (operand-row _ c.requires.a) (operand-row _ c.requires.b))

pub emit_everywhere-requires-clause-some : goal.emit_everywhere-requires-clause-some
emit_everywhere-requires-clause-some c = rw c.on.ensures (some-values c.args.kind)
