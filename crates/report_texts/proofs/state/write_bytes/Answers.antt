use Rattle.std.proofs.Common.{◌≡◌, ◌+◌, ◌-◌, ◌/◌, true, false, arith}
use Rattle.std.proofs.lemmas.Result.{err_from_is_err_and}
use Rattle.cape_io.proofs.Writing.{writes_more, writes_none, writes_stopped}
use Rattle.report_texts.specs.StateTexts.{vector_byte, vector_bytes}
use Rattle.report_texts.proofs.PieceLemmas.{pieces, pieces_split, pieces_done}
use Rattle.report_texts.proofs.state.write_bytes.Goals as goal

pub loop-first-init : goal.loop-first-init
unfolding vector_bytes pieces
loop-first-init g c =
    let all : c.csrs.result.now.vlen / 8 - 0 ≡ c.args.machine.now.core.csrs.vlen / 8 = rw c.csrs.ensures (omega arith) in
    record { bound = omega arith; continues = rw all (λ went end written. written) }

pub loop-first-preserved : goal.loop-first-preserved
loop-first-preserved g c =
    let f = vector_byte c.args.machine.now.core c.args.r in
    record {
      bound = omega arith;
      continues = λ went end written. c.loop-first.invariant.continues went end
          (rw (pieces_split f c.loop-first.first (c.loop-first.first + c.min.result) (c.csrs.result.now.vlen / 8) (omega arith) (omega arith))
          (writes_more g.E.Sink _ _ went _ _ end (rw c.byte_digits.ensures at c.in_ok-write_line.ensures) written));
    }

pub returns-in_err-write_line : goal.returns-in_err-write_line
returns-in_err-write_line g c =
    let f = vector_byte c.args.machine.now.core c.args.r in
    let p = err_from_is_err_and c.from_residual.result c.from_residual.ensures.1 in
    rw p.1 (c.loop-first.invariant.continues false _
    (rw (pieces_split f c.loop-first.first (c.loop-first.first + c.min.result) (c.csrs.result.now.vlen / 8) (omega arith) (omega arith))
    (writes_stopped g.E.Sink _ _ _ _ (rw c.byte_digits.ensures at c.in_err-write_line.ensures))))

pub returns : goal.returns
returns g c =
    c.loop-first.invariant.continues true _ (rw (pieces_done (vector_byte c.args.machine.now.core c.args.r) c.loop-first.first (c.csrs.result.now.vlen / 8) (omega arith)) (writes_none g.E.Sink _))
