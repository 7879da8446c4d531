use Rattle.std.proofs.Common.{◌+◌, ◌-◌, true, false, arith}
use Rattle.std.proofs.lemmas.Result.{err_from_is_err_and}
use Rattle.cape_io.proofs.Writing.{writes_more, writes_none, writes_stopped}
use Rattle.report_texts.specs.StateTexts.{vector_line, vector_lines}
use Rattle.report_texts.proofs.PieceLemmas.{pieces, pieces_more, pieces_done}
use Rattle.report_texts.proofs.state.write_vectors.Goals as goal

pub loop-r-init : goal.loop-r-init
unfolding vector_lines pieces
loop-r-init g c = record { continues = λ went end written. written }

pub loop-r-preserved : goal.loop-r-preserved
loop-r-preserved g c =
    let f = vector_line c.args.machine.now.core in
    record {
      continues = λ went end written. c.loop-r.invariant.continues went end
          (rw (pieces_more f c.loop-r.r 32 (omega arith)) (writes_more g.E.Sink (f c.loop-r.r) _ went _ _ end (c.in_ok-write_vector.ensures) written));
    }

pub returns-in_err-write_vector : goal.returns-in_err-write_vector
returns-in_err-write_vector g c =
    let f = vector_line c.args.machine.now.core in
    let p = err_from_is_err_and c.from_residual.result c.from_residual.ensures.1 in
    rw p.1 (c.loop-r.invariant.continues false _
    (rw (pieces_more f c.loop-r.r 32 (omega arith)) (writes_stopped g.E.Sink (f c.loop-r.r) _ _ _ (c.in_err-write_vector.ensures))))

pub returns : goal.returns
returns g c =
    c.loop-r.invariant.continues true _ (rw (pieces_done (vector_line c.args.machine.now.core) c.loop-r.r 32 (omega arith)) (writes_none g.E.Sink _))
