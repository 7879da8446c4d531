use Rattle.std.proofs.Common.{false}
use Rattle.std.proofs.lemmas.Result.{err_from_is_err_and}
use Rattle.cape_io.proofs.Writing.{writes_more, writes_stopped}
use Rattle.report_texts.proofs.state.write_vector.Goals as goal

pub returns-in_err-write_line : goal.returns-in_err-write_line
returns-in_err-write_line g c =
    let p = err_from_is_err_and c.from_residual.result c.from_residual.ensures.1 in
    rw p.1 (writes_stopped g.E.Sink _ _ _ _ (rw c.vector_name.ensures at c.in_err-write_line.ensures))

pub returns-in_err-write_bytes : goal.returns-in_err-write_bytes
returns-in_err-write_bytes g c =
    let p = err_from_is_err_and c.from_residual-in_err-write_bytes.result c.from_residual-in_err-write_bytes.ensures.1 in
    rw p.1 (writes_more g.E.Sink _ _ false _ _ _ (rw c.vector_name.ensures at c.in_ok-write_line.ensures)
    (writes_stopped g.E.Sink _ _ _ _ c.in_err-write_bytes.ensures))

pub returns : goal.returns
returns g c =
    writes_more g.E.Sink _ _ _ _ _ _ (rw c.vector_name.ensures at c.in_ok-write_line.ensures)
    (writes_more g.E.Sink _ _ _ _ _ _ c.in_ok-write_bytes.ensures (rw c.line_end.ensures at c.write_line-2.ensures))
