use Rattle.std.proofs.Common.{◌≡◌, drop}
use Rattle.debug_commands.specs.Commands.{place_from}
use Rattle.debug_commands.proofs.desk.place_of.Given as goal

-- no break before is at the address
abbrev pub invariant-loop-i : goal.invariant-loop-i
invariant-loop-i l = place_from l.i l.address (drop l.i l.breaks) ≡ place_from 0 l.address l.breaks
