use Rattle.std.proofs.Common.{◌+◌, ◌-◌, true, false, arith}
use Rattle.std.proofs.lemmas.Result.{err_from_is_err_and}
use Rattle.cape_io.proofs.Writing.{writes_more, writes_none, writes_stopped}
use Rattle.report_texts.specs.StateTexts.{register_line, register_lines}
use Rattle.report_texts.proofs.PieceLemmas.{pieces, pieces_more, pieces_done}
use Rattle.report_texts.proofs.state.write_registers.Goals as goal

pub loop-r-init : goal.loop-r-init
unfolding register_lines pieces
loop-r-init g c = record { continues = λ went end written. written }

pub loop-r-preserved : goal.loop-r-preserved
loop-r-preserved g c =
    let f = register_line c.args.machine.now.core in
    record {
      continues = λ went end written. c.loop-r.invariant.continues went end
          (rw (pieces_more f c.loop-r.r 32 (omega arith)) (writes_more g.E.Sink (f c.loop-r.r) _ went _ _ end (rw c.register_line.ensures at c.in_ok-write_line.ensures) written));
    }

pub returns-in_err-write_line : goal.returns-in_err-write_line
returns-in_err-write_line g c =
    let f = register_line c.args.machine.now.core in
    let p = err_from_is_err_and c.from_residual.result c.from_residual.ensures.1 in
    rw p.1 (c.loop-r.invariant.continues false _
    (rw (pieces_more f c.loop-r.r 32 (omega arith)) (writes_stopped g.E.Sink (f c.loop-r.r) _ _ _ (rw c.register_line.ensures at c.in_err-write_line.ensures))))

pub returns : goal.returns
returns g c =
    c.loop-r.invariant.continues true _ (rw (pieces_done (register_line c.args.machine.now.core) c.loop-r.r 32 (omega arith)) (writes_none g.E.Sink _))
