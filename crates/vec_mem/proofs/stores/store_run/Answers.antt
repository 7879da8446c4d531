use Rattle.std.proofs.Common.{◌∙◌, ap}
use Rattle.guest_mem.specs.Pages.{Pages}
use Rattle.vec_mem.specs.Views.{vectors_of}
use Rattle.vec_mem.proofs.RunElements.{runs-are, run-stops}
use Rattle.vec_mem.proofs.RunLoads.{run-room}
use Rattle.vec_mem.proofs.RunStores.{run-left}
use Rattle.vec_mem.proofs.stores.store_run.Goals as goal

pub store_span-requires-clause-room : goal.store_span-requires-clause-room
store_span-requires-clause-room c = run-room c.args.cfg.now c.args.access.now c.args.chain.now.columns c.field_size-size.result c.requires.columns c.requires.fits c.field_size-size.ensures

pub returns-clause-stop : goal.returns-clause-stop
returns-clause-stop c =
    run-stops c.args.cfg.now c.args.access.now c.args.base (vectors_of c.args.chain.now) 2 c.args.mem.now.pages (runs-are c.args.cfg.now c.args.access.now c.args.base 2 c.args.mem.now.pages c.requires.run)

pub returns-clause-pages : goal.returns-clause-pages
returns-clause-pages c =
    c.store_span.ensures
    ∙ ap (λ (p : Pages). record c.args.mem.now { pages = p })
    (run-left c.args.cfg.now c.args.access.now c.args.chain.now.columns c.field_size-size.result c.args.base (vectors_of c.args.chain.now) c.args.mem.now.pages c.requires.columns c.field_size-size.ensures c.requires.fits
    (runs-are c.args.cfg.now c.args.access.now c.args.base 2 c.args.mem.now.pages c.requires.run))
