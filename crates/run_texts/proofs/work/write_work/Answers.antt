use Rattle.std.proofs.Common.{◌+◌, ◌-◌, true, false, arith}
use Rattle.std.proofs.lemmas.Result.{err_from_is_err_and}
use Rattle.cam_chain.specs.ChainValue.{slices_of}
use Rattle.cape_io.proofs.Writing.{writes_more, writes_none, writes_stopped}
use Rattle.run_texts.specs.WorkTexts.{subarray_text, work_text}
use Rattle.run_texts.proofs.PieceLemmas.{pieces, pieces_more, pieces_done}
use Rattle.run_texts.proofs.work.write_work.Goals as goal

pub loop-sub-init : goal.loop-sub-init
unfolding work_text pieces
loop-sub-init g c = record { continues = λ went end written. written }

pub loop-sub-preserved : goal.loop-sub-preserved
loop-sub-preserved g c =
    let f = subarray_text (slices_of c.args.chain.now) in
    record {
      continues = λ went end written. c.loop-sub.invariant.continues went end
          (rw (pieces_more f c.loop-sub.sub 32 (omega arith)) (writes_more g.E.Sink (f c.loop-sub.sub) _ went _ _ end c.in_ok-write_subarray.ensures written));
    }

pub returns-in_err-write_subarray : goal.returns-in_err-write_subarray
returns-in_err-write_subarray g c =
    let f = subarray_text (slices_of c.args.chain.now) in
    let p = err_from_is_err_and c.from_residual.result c.from_residual.ensures.1 in
    rw p.1 (c.loop-sub.invariant.continues false _
    (rw (pieces_more f c.loop-sub.sub 32 (omega arith)) (writes_stopped g.E.Sink (f c.loop-sub.sub) _ _ _ c.in_err-write_subarray.ensures)))

pub returns : goal.returns
returns g c =
    c.loop-sub.invariant.continues true _ (rw (pieces_done (subarray_text (slices_of c.args.chain.now)) c.loop-sub.sub 32 (omega arith)) (writes_none g.E.Sink _))
