use Rattle.std.proofs.Common.{◌≡◌, ◌++◌, ◌-◌}
use Rattle.work_gen.specs.Draws.{state_after}
use Rattle.work_gen.specs.Words.{fillings, filled_registers}
use Rattle.work_gen.proofs.program.push_fillings.Given as goal

-- the registers from this one on are left
abbrev pub invariant-loop-r : goal.invariant-loop-r
invariant-loop-r l = record {
  words : l.words.items ++ fillings (32 - l.r) l.r l.draws.state ≡ l.initial.words.items ++ fillings filled_registers 1 l.initial.draws.state;
  draws : state_after (32 - l.r) l.draws.state ≡ state_after filled_registers l.initial.draws.state;
}
