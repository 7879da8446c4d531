use Rattle.std.proofs.Common.{refl}
use Rattle.gen_shift.proofs.kinds.kept_bits.Goals as goal

pub returns-then-up : goal.returns-then-up
returns-then-up c = rw c.if-up.true refl

pub returns-else-up : goal.returns-else-up
returns-else-up c = rw c.if-up.false refl
