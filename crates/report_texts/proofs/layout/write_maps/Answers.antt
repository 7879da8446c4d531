use Rattle.std.proofs.Common.{◌-◌, map, true, false, arith}
use Rattle.std.proofs.lemmas.Result.{err_from_is_err_and}
use Rattle.cape_io.proofs.Writing.{writes_more, writes_none, writes_stopped}
use Rattle.guest_mem.specs.Spans.{span_of}
use Rattle.report_texts.proofs.LayoutLemmas.{lines-whole, lines-none, lines_by}
use Rattle.report_texts.proofs.layout.write_maps.Goals as goal

pub loop-first-init : goal.loop-first-init
loop-first-init g c = record { bound = omega arith; continues = rw (lines-whole (map span_of c.args.regions.now)) (λ went end written. written) }

pub loop-first-preserved : goal.loop-first-preserved
loop-first-preserved g c =
    let run = c.run_end-after.ensures in
    record {
      bound = run.bound;
      continues = λ went end written. c.loop-first.invariant.continues went end
          (rw (lines_by (map span_of c.args.regions.now) c.loop-first.first c.run_end-after.result run.later run.bound run.run run.longest)
          (writes_more g.O.Sink _ _ went _ _ end c.in_ok-write_run.ensures written));
    }

pub returns-in_err-write_run : goal.returns-in_err-write_run
returns-in_err-write_run g c =
    let run = c.run_end-after.ensures in
    let p = err_from_is_err_and c.from_residual.result c.from_residual.ensures.1 in
    rw p.1 (c.loop-first.invariant.continues false _
    (rw (lines_by (map span_of c.args.regions.now) c.loop-first.first c.run_end-after.result run.later run.bound run.run run.longest)
    (writes_stopped g.O.Sink _ _ _ _ c.in_err-write_run.ensures)))

pub returns : goal.returns
returns g c =
    c.loop-first.invariant.continues true _ (rw (lines-none (map span_of c.args.regions.now) c.loop-first.first (omega arith)) (writes_none g.O.Sink _))
