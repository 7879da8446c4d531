use Rattle.gen_shift.proofs.lists.raw_row.Goals as goal

pub returns : goal.returns
returns g c = rw c.LOG.ensures at c.shift_row.ensures.role
