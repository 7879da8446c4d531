use Rattle.std.proofs.Common.{◌≡◌, ◌++◌, ◌-◌}
use Rattle.work_gen.specs.Words.{blocks}
use Rattle.work_gen.proofs.program.push_blocks.Given as goal

-- the blocks from this one on are left
abbrev pub invariant-loop : goal.invariant-loop
invariant-loop l = l.words.items ++ blocks (l.size - l.counter) l.draws.state ≡ l.initial.words.items ++ blocks l.size l.initial.draws.state
