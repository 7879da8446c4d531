use Rattle.gen_div.proofs.lists.quotient_row.Goals as goal

pub returns-clause-role : goal.returns-clause-role
returns-clause-role g c = rw c.BITS.ensures at c.half_row.ensures.role
