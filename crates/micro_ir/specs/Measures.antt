-- What a list costs, how long it is, and that a chain can run it.
use Rattle.std.specs.Prelude.{◌≡◌, ℕ, ◌+◌, List, length}
use Rattle.cam_chain.specs.declared.counts.Counts.{Counts}
use Rattle.micro_ir.specs.declared.op.MicroOp.{MicroOp}
use Rattle.micro_ir.specs.Replay.{AllInRange, tally}

abbrev pub counts : (searches updates passes : ℕ) → Counts
counts searches updates passes = record { searches = searches; updates = updates; passes = passes }

-- The searches, updates and passes of a list, and the number of its operations, which is its own, since a pass may move tags by
-- several subarrays. A chain of any number of columns can run it.
pub record Measured (all : Counts) (long : ℕ) (ops : List MicroOp) : Type 0 where
  pub cost : tally ops ≡ all
  pub count : length ops ≡ long
  pub range : (columns : ℕ) → AllInRange columns ops
