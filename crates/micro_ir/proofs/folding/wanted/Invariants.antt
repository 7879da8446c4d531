use Rattle.std.proofs.Common.{◌≡◌, drop}
use Rattle.micro_ir.specs.Folding.{wanted}
use Rattle.micro_ir.proofs.folding.wanted.Given as goal

-- the pairs so far do not name the row
abbrev pub invariant-loop-pair : goal.invariant-loop-pair
invariant-loop-pair l = wanted (drop l.pair-index l.pairs) l.row ≡ wanted l.pairs l.row
