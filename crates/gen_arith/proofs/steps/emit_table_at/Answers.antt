use Rattle.std.proofs.Common.{arith}
use Rattle.gen_arith.proofs.Rows.{work-rows}
use Rattle.gen_arith.proofs.steps.emit_table_at.Goals as goal

pub emit_above-requires-clause-rows : goal.emit_above-requires-clause-rows
emit_above-requires-clause-rows g c = work-rows 35 c.args.a c.args.b (omega arith) c.requires.a c.requires.b
