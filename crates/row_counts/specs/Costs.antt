-- What a list costs, how long it is, and which chains can run it.
use Rattle.std.specs.Prelude.{◌≡◌, ℕ, List, length}
use Rattle.cam_chain.specs.declared.counts.Counts.{Counts}
use Rattle.micro_ir.specs.declared.op.MicroOp.{MicroOp}
use Rattle.micro_ir.specs.Replay.{AllInRange, tally}

-- The searches, updates and passes of a list, and the number of its operations. A chain of so many columns can run it where the
-- list's group of registers fits these.
pub record Spends (all : Counts) (long : ℕ) (fits : ℕ → Type 0) (ops : List MicroOp) : Type 0 where
  pub cost : tally ops ≡ all
  pub count : length ops ≡ long
  pub range : (columns : ℕ) → fits columns → AllInRange columns ops
