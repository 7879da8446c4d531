use Rattle.std.proofs.Common.{◌∙◌, ap}
use Rattle.rvv_meaning.specs.LoadsAndStores.{stores, cfg_after, bad}
use Rattle.vec_mem.specs.Views.{vectors_of}
use Rattle.vec_mem.proofs.Ending.{not-trapped, fault-told}
use Rattle.vec_mem.proofs.stores.store_access.Goals as goal

pub returns-clause-cfg : goal.returns-clause-cfg
unfolding stores
returns-clause-cfg c = c.end.ensures.cfg ∙ ap (cfg_after c.args.cfg.now c.args.access.now) c.store_all-stop.ensures.stop

pub returns-clause-pages : goal.returns-clause-pages
unfolding stores
returns-clause-pages c = c.store_all-stop.ensures.pages

pub returns-clause-ok : goal.returns-clause-ok
unfolding stores
returns-clause-ok c = not-trapped c.args.access.now c.end.result c.store_all-stop.result _ _ c.store_all-stop.ensures.stop c.end.ensures.ok

pub returns-clause-fault : goal.returns-clause-fault
unfolding stores
returns-clause-fault c =
    fault-told c.args.access.now c.end.result c.store_all-stop.result _ (bad c.args.cfg.now c.args.access.now c.args.base (vectors_of c.args.chain.now) 2 c.args.mem.now.pages) c.store_all-stop.ensures.stop c.end.ensures.element c.end.ensures.address c.store_all-stop.ensures.bad
