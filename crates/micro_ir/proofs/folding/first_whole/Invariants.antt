use Rattle.std.proofs.Common.{◌≡◌, drop}
use Rattle.micro_ir.specs.Folding.{first_whole}
use Rattle.micro_ir.proofs.folding.first_whole.Given as goal

-- the values so far want both bits of a row
abbrev pub invariant-loop-value : goal.invariant-loop-value
invariant-loop-value l = first_whole l.rows (drop l.value-index l.on) ≡ first_whole l.rows l.on
