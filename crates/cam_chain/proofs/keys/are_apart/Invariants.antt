use Rattle.std.proofs.Common.{◌≡◌, drop}
use Rattle.cam_chain.specs.KeyPairs.{are_apart}
use Rattle.cam_chain.proofs.keys.are_apart.Given as goal

abbrev pub invariant-loop-i : goal.invariant-loop-i
invariant-loop-i l = are_apart l.pairs ≡ are_apart (drop l.i l.pairs)
