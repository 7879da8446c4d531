use Rattle.guest_mem.proofs.Rising.{nowhere}
use Rattle.guest_mem.proofs.searching.index_of.Goals as goal

pub returns-clause-absent : goal.returns-clause-absent
returns-clause-absent c =
    let place = c.lower_bound-at.ensures in
    nowhere c.args.numbers.now c.lower_bound-at.result c.args.number c.requires
    (λ is. let stands = (c.if-stands_at-3.ensures).1 is in (cc))
    place.below
    place.above
