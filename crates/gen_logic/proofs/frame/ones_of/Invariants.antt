use Rattle.std.proofs.Common.{◌≡◌, ◌&&◌}
use lib.Dec.{ltb}
use Rattle.bit_laws.specs.Numbers.{bit_of}
use Rattle.micro_ir.specs.Subs.{subs_below}
use Rattle.gen_logic.proofs.frame.ones_of.Given as goal

-- the set holds the subarrays so far
abbrev pub invariant-loop-sub : goal.invariant-loop-sub
invariant-loop-sub g l = l.subs ≡ subs_below g.W.Width.BITS (λ j. ltb j g.W.Width.BITS && bit_of l.scalar j) l.sub
