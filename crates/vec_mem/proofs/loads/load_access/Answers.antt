use Rattle.std.proofs.Common.{◌∙◌, ap}
use Rattle.rvv_meaning.specs.LoadsAndStores.{loads, cfg_after, bad}
use Rattle.vec_mem.specs.Views.{vectors_of}
use Rattle.vec_mem.proofs.Ending.{not-trapped, fault-told}
use Rattle.vec_mem.proofs.loads.load_access.Goals as goal

pub returns-clause-cfg : goal.returns-clause-cfg
unfolding loads
returns-clause-cfg c = c.end.ensures.cfg ∙ ap (cfg_after c.args.cfg.now c.args.access.now) c.load_all-stop.ensures.stop

pub returns-clause-vectors : goal.returns-clause-vectors
unfolding loads
returns-clause-vectors c = c.load_all-stop.ensures.vectors

pub returns-clause-ok : goal.returns-clause-ok
unfolding loads
returns-clause-ok c = not-trapped c.args.access.now c.end.result c.load_all-stop.result _ _ c.load_all-stop.ensures.stop c.end.ensures.ok

pub returns-clause-fault : goal.returns-clause-fault
unfolding loads
returns-clause-fault c =
    fault-told c.args.access.now c.end.result c.load_all-stop.result _ (bad c.args.cfg.now c.args.access.now c.args.base (vectors_of c.args.chain.now) 4 c.args.mem.now.pages) c.load_all-stop.ensures.stop c.end.ensures.element c.end.ensures.address c.load_all-stop.ensures.bad
