use Rattle.std.proofs.Common.{◌≡◌}
use Rattle.list_replay.proofs.slices.set_bits.Given as goal

-- the chain has the columns that it had
abbrev pub invariant-loop-col : goal.invariant-loop-col
invariant-loop-col l = l.chain.columns ≡ l.initial.chain.columns
