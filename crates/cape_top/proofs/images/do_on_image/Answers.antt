use Rattle.std.proofs.Common.{inr, map}
use Rattle.elf_load.specs.Layout.{span_of}
use Rattle.report_texts.specs.Layouts.{layout_text}
use Rattle.report_texts.specs.Lines.{refused_line}
use Rattle.cape_top.specs.declared.ending.Status.TheVariants.{Done, Refused}
use Rattle.cape_io.specs.Views.{devices, views}
use Rattle.cape_top.proofs.StatusLemmas.{no_refusal_of_run, no_refusal_of_text, refusal_by}
use Rattle.cape_top.proofs.TopLemmas.{checked_if, refused_if, run_ends, run_reads, writes_err, writes_out}
use Rattle.cape_top.proofs.images.do_on_image.Goals as goal

pub returns-in-Err-Refused-clause-ends : goal.returns-in-Err-Refused-clause-ends
returns-in-Err-Refused-clause-ends g c =
    let fault = c.in-Err-Refused.fault in
    let is = rw c.in-Err-Refused.field-0-is at c.in-Err-Refused.ensures.refused in
    writes_err g.S.Source g.O.Sink g.E.Sink _ c.refuse.result (Refused fault) _ tt c.requires.none c.args.input.now
    (refused_line fault) c.args.out.now c.args.err.now c.refuse.new.err (refused_if c.args.command _ _ fault is)
    (rw c.in-Err-Refused.fault-is at c.refuse.ensures.only) (rw c.in-Err-Refused.fault-is at c.refuse.ensures.said) (rw c.in-Err-Refused.fault-is at c.refuse.ensures.fails)

pub returns-in-Err-Refused-clause-refused : goal.returns-in-Err-Refused-clause-refused
returns-in-Err-Refused-clause-refused g c =
    refusal_by _ c.refuse.result c.in-Err-Refused.fault (rw c.in-Err-Refused.field-0-is at c.in-Err-Refused.ensures.refused) (rw c.in-Err-Refused.fault-is at c.refuse.ensures.only)

pub returns-in-Run-clause-ends : goal.returns-in-Run-clause-ends
returns-in-Run-clause-ends g c =
    let d = devices g.S.Source g.O.Sink g.E.Sink c.args.input.now c.run_loaded.new.input c.args.out.now c.run_loaded.new.out c.args.err.now c.run_loaded.new.err in
    rw (c.in-Run.is) (run_ends c.in-Run.options _ c.in-Ok.loaded c.in-Ok.ensures.loaded d _ _ c.run_loaded.ensures.ends)

pub returns-in-Run-clause-read : goal.returns-in-Run-clause-read
returns-in-Run-clause-read g c = λ is.
    let v = views g.S.Source g.O.Sink g.E.Sink c.args.input.now c.args.out.now c.args.err.now in
    rw (c.in-Run.is) (inr record {
      rose = c.run_loaded.ensures.read is;
      reads = run_reads c.in-Run.options _ c.in-Ok.loaded c.in-Ok.ensures.loaded v (c.run_loaded.ensures.reads is);
    })

pub returns-in-Run-clause-refused : goal.returns-in-Run-clause-refused
returns-in-Run-clause-refused g c = no_refusal_of_run _ c.run_loaded.result c.run_loaded.ensures.only

pub returns-in-Check-clause-refused : goal.returns-in-Check-clause-refused
returns-in-Check-clause-refused g c = no_refusal_of_text _ c.check_loaded.result c.check_loaded.ensures.only

pub returns-in-Check-clause-ends : goal.returns-in-Check-clause-ends
returns-in-Check-clause-ends g c =
    let l = c.in-Ok.loaded in
    rw (c.in-Check.is) (writes_out g.S.Source g.O.Sink g.E.Sink _ c.check_loaded.result Done _ tt c.requires.none c.args.input.now
    (layout_text l.entry_pc (map span_of l.regions)) c.args.out.now c.check_loaded.new.out c.args.err.now (checked_if _ _ l c.in-Ok.ensures.loaded)
    c.check_loaded.ensures.only c.check_loaded.ensures.said c.check_loaded.ensures.fails)
