use Rattle.std.proofs.Common.{refl}
use Rattle.row_sums.proofs.rows.half_row.Goals as goal

pub returns-then-odd-clause-role : goal.returns-then-odd-clause-role
returns-then-odd-clause-role c = rw c.if-odd.true refl

pub returns-else-odd-clause-role : goal.returns-else-odd-clause-role
returns-else-odd-clause-role c = rw c.if-odd.false refl
