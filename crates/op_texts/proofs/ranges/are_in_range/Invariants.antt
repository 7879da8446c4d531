use Rattle.std.proofs.Common.{drop}
use Rattle.micro_ir.specs.Replay.{AllInRange}
use Rattle.op_texts.proofs.ranges.are_in_range.Given as goal

-- where a chain can run the operations that are left, it can run all
abbrev pub invariant-loop-op : goal.invariant-loop-op
invariant-loop-op l = AllInRange l.columns (drop l.op-index l.ops) → AllInRange l.columns l.ops
