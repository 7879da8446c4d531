use Rattle.cam_chain.proofs.Sets.{left_of, left_less}
use Rattle.cam_chain.proofs.subarray_sets.without.Goals as goal

pub returns-clause-others : goal.returns-clause-others
returns-clause-others c s l = left_of c.args.subs c.args.sub s c.requires.within l

pub returns-clause-fewer : goal.returns-clause-fewer
returns-clause-fewer c = left_less c.args.subs c.args.sub c.requires.within c.requires.chosen
