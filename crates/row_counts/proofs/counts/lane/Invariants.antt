use Rattle.std.proofs.Common.{◌≡◌, eqb}
use Rattle.micro_ir.specs.Subs.{subs_below}
use Rattle.row_counts.proofs.counts.lane.Given as goal

-- the set holds the subarrays so far
abbrev pub invariant-loop-sub : goal.invariant-loop-sub
invariant-loop-sub l = l.subs ≡ subs_below l.width (λ i. eqb i l.bit) l.sub
