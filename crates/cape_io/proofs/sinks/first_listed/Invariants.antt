-- The pair is still to be found among those that are left.
use Rattle.std.proofs.Common.{◌≡◌, drop}
use Rattle.cape_io.specs.States.{listed_pair}
use Rattle.cape_io.proofs.sinks.first_listed.Given as goal

abbrev pub invariant-loop-pair : goal.invariant-loop-pair
invariant-loop-pair l = listed_pair (drop l.pair-index l.fails) l.call ≡ listed_pair l.fails l.call
