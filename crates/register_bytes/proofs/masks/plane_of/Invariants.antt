use Rattle.register_bytes.proofs.Planes.{Holds}
use Rattle.register_bytes.proofs.masks.plane_of.Given as goal

abbrev pub invariant-loop-k : goal.invariant-loop-k
invariant-loop-k l = Holds l.lane l.bit l.k l.words
