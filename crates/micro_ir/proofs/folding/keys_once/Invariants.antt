use Rattle.micro_ir.proofs.Folds.{KeysSoFar}
use Rattle.micro_ir.proofs.folding.keys_once.Given as goal

-- the pairs so far are those of the rows so far
abbrev pub invariant-loop-row : goal.invariant-loop-row
invariant-loop-row l = KeysSoFar l.rows l.value l.row-index l.count l.pairs l.rest
