use Rattle.std.proofs.Common.{false}
use Rattle.std.proofs.lemmas.Result.{err_from_is_err_and}
use Rattle.cape_io.proofs.Writing.{writes_more, writes_stopped}
use Rattle.report_texts.specs.StateTexts.{state_text}
use Rattle.report_texts.proofs.state.write_state.Goals as goal

pub returns-in_err-write_line : goal.returns-in_err-write_line
unfolding state_text
returns-in_err-write_line g c =
    let p = err_from_is_err_and c.from_residual.result c.from_residual.ensures.1 in
    rw p.1 (writes_stopped g.E.Sink _ _ _ _ (rw (c.pc_line.ensures, c.pc.ensures) at c.in_err-write_line.ensures))

pub returns-in_err-write_registers : goal.returns-in_err-write_registers
unfolding state_text
returns-in_err-write_registers g c =
    let p = err_from_is_err_and c.from_residual-in_err-write_registers.result c.from_residual-in_err-write_registers.ensures.1 in
    rw p.1 (writes_more g.E.Sink _ _ false _ _ _ (rw (c.pc_line.ensures, c.pc.ensures) at c.in_ok-write_line.ensures)
    (writes_stopped g.E.Sink _ _ _ _ c.in_err-write_registers.ensures))

pub returns-in_err-write_line-2 : goal.returns-in_err-write_line-2
unfolding state_text
returns-in_err-write_line-2 g c =
    let p = err_from_is_err_and c.from_residual-in_err-write_line-2.result c.from_residual-in_err-write_line-2.ensures.1 in
    rw p.1 (writes_more g.E.Sink _ _ false _ _ _ (rw (c.pc_line.ensures, c.pc.ensures) at c.in_ok-write_line.ensures)
    (writes_more g.E.Sink _ _ false _ _ _ c.in_ok-write_registers.ensures
    (writes_stopped g.E.Sink _ _ _ _ (rw (c.control_lines.ensures, c.csrs.ensures) at c.in_err-write_line-2.ensures))))

pub returns : goal.returns
unfolding state_text
returns g c =
    writes_more g.E.Sink _ _ _ _ _ _ (rw (c.pc_line.ensures, c.pc.ensures) at c.in_ok-write_line.ensures)
    (writes_more g.E.Sink _ _ _ _ _ _ c.in_ok-write_registers.ensures
    (writes_more g.E.Sink _ _ _ _ _ _ (rw (c.control_lines.ensures, c.csrs.ensures) at c.in_ok-write_line-2.ensures) c.write_vectors.ensures))
