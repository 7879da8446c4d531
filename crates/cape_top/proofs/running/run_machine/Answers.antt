use Rattle.std.proofs.Common.{ap, Err, refl}
use Rattle.cape_io.specs.Views.{devices, sink_view, views}
use Rattle.cape_top.proofs.EndingLemmas.{machine_ended, reads_in, report_fails, run_fails}
use Rattle.cape_top.proofs.running.run_machine.Goals as goal

pub returns-in-Err-WriteFault-clause-ends : goal.returns-in-Err-WriteFault-clause-ends
returns-in-Err-WriteFault-clause-ends g c =
    run_fails c.args.options c.args.machine (devices g.S.Source g.O.Sink g.E.Sink c.args.input.now c.run.new.input c.args.out.now c.run.new.out c.args.err.now c.run.new.err) _ _ tt c.in-Err-WriteFault.ensures.prefixes

pub returns-in-Err-ReadFault-clause-ends : goal.returns-in-Err-ReadFault-clause-ends
returns-in-Err-ReadFault-clause-ends g c =
    run_fails c.args.options c.args.machine (devices g.S.Source g.O.Sink g.E.Sink c.args.input.now c.run.new.input c.args.out.now c.run.new.out c.args.err.now c.run.new.err) _ _ tt c.in-Err-ReadFault.ensures.prefixes

pub returns-in-Ok-write_end-clause-ends : goal.returns-in-Ok-write_end-clause-ends
returns-in-Ok-write_end-clause-ends g c =
    let v = views g.S.Source g.O.Sink g.E.Sink c.args.input.now c.args.out.now c.args.err.now in
    let v' = views g.S.Source g.O.Sink g.E.Sink c.run.new.input c.run.new.out c.run.new.err in
    machine_ended c.args.options c.args.machine c.run.new.self v v' (sink_view g.E.Sink c.write_end.new.err) c.in-Ok.answer c.in-Ok.ensures.goes c.in-Ok.ensures.live c.in-Ok.ensures.answer _ _ c.status_for.ensures refl c.in-Ok-write_end.ensures.gained

pub returns-clause-ends : goal.returns-clause-ends
returns-clause-ends g c =
    let v = views g.S.Source g.O.Sink g.E.Sink c.args.input.now c.args.out.now c.args.err.now in
    let v' = views g.S.Source g.O.Sink g.E.Sink c.run.new.input c.run.new.out c.run.new.err in
    report_fails c.args.options c.args.machine c.run.new.self v v' (sink_view g.E.Sink c.write_end.new.err) c.in-Ok.answer c.in-Ok.ensures.goes c.in-Ok.ensures.live c.in-Ok.ensures.answer _ _ tt c.in-Err.ensures.gained

pub returns-in-Err-ReadFault-clause-reads : goal.returns-in-Err-ReadFault-clause-reads
returns-in-Err-ReadFault-clause-reads g c = λ is.
    reads_in c.args.options c.args.machine (views g.S.Source g.O.Sink g.E.Sink c.args.input.now c.args.out.now c.args.err.now) (c.in-Err-ReadFault.ensures.reads (ap Err c.in-Err-ReadFault.field-0-is))
