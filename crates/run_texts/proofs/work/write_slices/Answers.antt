use Rattle.std.proofs.Common.{◌+◌, ◌-◌, true, false, arith}
use Rattle.std.proofs.lemmas.Result.{err_from_is_err_and}
use Rattle.cam_chain.specs.ChainValue.{slices_of}
use Rattle.cape_io.proofs.Writing.{writes_more, writes_none, writes_stopped}
use Rattle.run_texts.specs.WorkTexts.{slice_line, slice_lines}
use Rattle.run_texts.proofs.PieceLemmas.{pieces, pieces_more, pieces_done}
use Rattle.run_texts.proofs.work.write_slices.Goals as goal

pub loop-row-init : goal.loop-row-init
unfolding slice_lines pieces
loop-row-init g c = record { continues = λ went end written. written }

pub loop-row-preserved : goal.loop-row-preserved
loop-row-preserved g c =
    let f = slice_line (slices_of c.args.chain.now) c.args.sub in
    record {
      continues = λ went end written. c.loop-row.invariant.continues went end
          (rw (pieces_more f c.loop-row.row 58 (omega arith)) (writes_more g.E.Sink (f c.loop-row.row) _ went _ _ end c.in_ok-write_slice.ensures written));
    }

pub returns-in_err-write_slice : goal.returns-in_err-write_slice
returns-in_err-write_slice g c =
    let f = slice_line (slices_of c.args.chain.now) c.args.sub in
    let p = err_from_is_err_and c.from_residual.result c.from_residual.ensures.1 in
    rw p.1 (c.loop-row.invariant.continues false _
    (rw (pieces_more f c.loop-row.row 58 (omega arith)) (writes_stopped g.E.Sink (f c.loop-row.row) _ _ _ c.in_err-write_slice.ensures)))

pub returns : goal.returns
returns g c =
    c.loop-row.invariant.continues true _ (rw (pieces_done (slice_line (slices_of c.args.chain.now) c.args.sub) c.loop-row.row 58 (omega arith)) (writes_none g.E.Sink _))
