use Rattle.std.proofs.Common.{◌≡◌, drop}
use Rattle.cam_chain.specs.KeyPairs.{is_new_row}
use Rattle.cam_chain.proofs.keys.is_new_row.Given as goal

abbrev pub invariant-loop-pair : goal.invariant-loop-pair
invariant-loop-pair l = is_new_row l.row l.pairs ≡ is_new_row l.row (drop l.pair-index l.pairs)
