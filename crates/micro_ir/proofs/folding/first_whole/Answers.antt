use Rattle.std.proofs.Common.{sym, arith, ◌∙◌}
use Rattle.micro_ir.proofs.Folds.{whole-here, whole-next, whole-none}
use Rattle.micro_ir.proofs.folding.first_whole.Goals as goal

pub returns-in-Some : goal.returns-in-Some
returns-in-Some c = whole-here c.args.rows.now c.args.on.now c.loop-value.value-index c.in-Some.keys c.loop-value-test.true (sym c.keys_once.ensures ∙ c.in-Some.is) c.loop-value.invariant

pub loop-value-preserved : goal.loop-value-preserved
loop-value-preserved c = whole-next c.args.rows.now c.args.on.now c.loop-value.value-index c.loop-value-test.true (sym c.keys_once.ensures ∙ c.in-None.is) c.loop-value.invariant

pub returns : goal.returns
returns c = whole-none c.args.rows.now c.args.on.now c.loop-value.value-index (omega arith) c.loop-value.invariant
