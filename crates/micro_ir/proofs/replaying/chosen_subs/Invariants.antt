use Rattle.std.proofs.Common.{◌≡◌}
use Rattle.bit_laws.specs.Numbers.{bit_of}
use Rattle.micro_ir.specs.Subs.{subs_below}
use Rattle.micro_ir.proofs.replaying.chosen_subs.Given as goal

-- the set holds the subarrays so far
abbrev pub invariant-loop-sub : goal.invariant-loop-sub
invariant-loop-sub l = l.subs ≡ subs_below l.fn.width (bit_of l.fn.num) l.sub
