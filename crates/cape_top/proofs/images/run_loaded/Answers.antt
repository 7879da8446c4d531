use Rattle.cape_io.specs.Views.{devices, views}
use Rattle.cape_top.proofs.EndingLemmas.{loaded_ends, loaded_reads}
use Rattle.cape_top.proofs.TopLemmas.{memory_in, shows_start}
use Rattle.cape_top.proofs.images.run_loaded.Goals as goal

pub returns-in-Ok-clause-ends : goal.returns-in-Ok-clause-ends
returns-in-Ok-clause-ends g c =
    let v = views g.S.Source g.O.Sink g.E.Sink c.args.input.now c.args.out.now c.args.err.now in
    let d = devices g.S.Source g.O.Sink g.E.Sink c.args.input.now c.run_machine.new.input c.args.out.now c.run_machine.new.out c.args.err.now c.run_machine.new.err in
    let l = c.args.loaded in
    let o = c.args.options in
    loaded_ends o l c.in-Ok.machine d _ _ c.run_machine.ensures.only c.run_machine.ensures.ends
    (λ input known. shows_start o.vlen o.policy l.entry_pc (memory_in l) input c.in-Ok.machine v known c.in-Ok.ensures.core c.in-Ok.ensures.slices c.in-Ok.ensures.last c.in-Ok.ensures.counts c.in-Ok.ensures.control)

pub returns-in-Ok-clause-reads : goal.returns-in-Ok-clause-reads
returns-in-Ok-clause-reads g c = λ is.
    let v = views g.S.Source g.O.Sink g.E.Sink c.args.input.now c.args.out.now c.args.err.now in
    let l = c.args.loaded in
    let o = c.args.options in
    loaded_reads o l c.in-Ok.machine v (c.run_machine.ensures.reads is)
    (λ input known. shows_start o.vlen o.policy l.entry_pc (memory_in l) input c.in-Ok.machine v known c.in-Ok.ensures.core c.in-Ok.ensures.slices c.in-Ok.ensures.last c.in-Ok.ensures.counts c.in-Ok.ensures.control)
