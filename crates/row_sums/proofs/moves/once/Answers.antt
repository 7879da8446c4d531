use Rattle.std.proofs.Common.{refl}
use Rattle.row_sums.proofs.moves.once.Goals as goal

pub returns-then-up : goal.returns-then-up
returns-then-up c = rw c.if-up.true refl

pub returns-else-up : goal.returns-else-up
returns-else-up c = rw c.if-up.false refl
