use Rattle.std.proofs.lemmas.Result.{err_from_is_err_and}
use Rattle.cape_io.proofs.Writing.{writes_more, writes_stopped}
use Rattle.cape_top.proofs.running.write_end.Goals as goal

pub returns-in_err-write_line : goal.returns-in_err-write_line
returns-in_err-write_line g c =
    let p = err_from_is_err_and c.from_residual.result c.from_residual.ensures.1 in
    rw p.1 (writes_stopped g.E.Sink _ _ _ _ (rw (c.report_line.ensures, c.retired.ensures) at c.in_err-write_line.ensures))

pub returns : goal.returns
returns g c =
    writes_more g.E.Sink _ _ _ _ _ _ (rw (c.report_line.ensures, c.retired.ensures) at c.in_ok-write_line.ensures) c.write_shown.ensures
