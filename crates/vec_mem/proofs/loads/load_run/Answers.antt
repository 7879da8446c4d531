use Rattle.std.proofs.Common.{sym, ◌∙◌, arith}
use Rattle.cam_chain.specs.ChainValue.{slices_of}
use Rattle.vec_mem.specs.Views.{vectors_of}
use Rattle.vec_mem.proofs.Looping.{tail-all, tail-left}
use Rattle.vec_mem.proofs.RunElements.{runs-are, run-stops}
use Rattle.vec_mem.proofs.RunLoads.{run-room, run-come}
use Rattle.vec_mem.proofs.loads.load_run.Goals as goal

pub load_span-requires-clause-room : goal.load_span-requires-clause-room
load_span-requires-clause-room c = run-room c.args.cfg.now c.args.access.now c.args.chain.now.columns c.field_size-size.result c.requires.columns c.requires.fits c.field_size-size.ensures

pub returns-then-fills_tail-clause-stop : goal.returns-then-fills_tail-clause-stop
returns-then-fills_tail-clause-stop c =
    run-stops c.args.cfg.now c.args.access.now c.args.base (vectors_of c.args.chain.now) 4 c.args.mem.now.pages (runs-are c.args.cfg.now c.args.access.now c.args.base 4 c.args.mem.now.pages c.requires.run)

pub returns-then-fills_tail-clause-vectors : goal.returns-then-fills_tail-clause-vectors
unfolding slices_of
returns-then-fills_tail-clause-vectors c =
    let r = runs-are c.args.cfg.now c.args.access.now c.args.base 4 c.args.mem.now.pages c.requires.run in
    tail-all c.args.cfg.now c.args.access.now (slices_of c.args.chain.now) c.requires.columns (omega (arith, c.requires.fits.wide, c.requires.columns)) c.requires.fits c.args.base c.args.mem.now.pages (vectors_of c.load_span.new.chain) (vectors_of c.fill_tail.new.chain) c.args.access.now.len
    (run-come c.args.cfg.now c.args.access.now (slices_of c.args.chain.now) c.args.base c.field_size-size.result (vectors_of c.load_span.new.chain) c.args.mem.now.pages c.requires.columns c.requires.fits r c.field_size-size.ensures c.load_span.ensures.bytes c.load_span.ensures.vectors)
    (λ order. omega arith) (omega arith) (sym c.fills_tail.ensures ∙ c.if-fills_tail.true) c.fill_tail.ensures.vectors
    (run-stops c.args.cfg.now c.args.access.now c.args.base (vectors_of c.args.chain.now) 4 c.args.mem.now.pages r)

pub returns-else-fills_tail-clause-stop : goal.returns-else-fills_tail-clause-stop
returns-else-fills_tail-clause-stop c =
    run-stops c.args.cfg.now c.args.access.now c.args.base (vectors_of c.args.chain.now) 4 c.args.mem.now.pages (runs-are c.args.cfg.now c.args.access.now c.args.base 4 c.args.mem.now.pages c.requires.run)

pub returns-else-fills_tail-clause-vectors : goal.returns-else-fills_tail-clause-vectors
unfolding slices_of
returns-else-fills_tail-clause-vectors c =
    let r = runs-are c.args.cfg.now c.args.access.now c.args.base 4 c.args.mem.now.pages c.requires.run in
    tail-left c.args.cfg.now c.args.access.now (slices_of c.args.chain.now) c.requires.columns (omega (arith, c.requires.fits.wide, c.requires.columns)) c.requires.fits c.args.base c.args.mem.now.pages (vectors_of c.load_span.new.chain) c.args.access.now.len
    (run-come c.args.cfg.now c.args.access.now (slices_of c.args.chain.now) c.args.base c.field_size-size.result (vectors_of c.load_span.new.chain) c.args.mem.now.pages c.requires.columns c.requires.fits r c.field_size-size.ensures c.load_span.ensures.bytes c.load_span.ensures.vectors)
    (omega arith) (sym c.fills_tail.ensures ∙ c.if-fills_tail.false)
    (run-stops c.args.cfg.now c.args.access.now c.args.base (vectors_of c.args.chain.now) 4 c.args.mem.now.pages r)
