use Rattle.std.proofs.Common.{false}
use Rattle.std.proofs.lemmas.Result.{err_from_is_err_and}
use Rattle.cape_io.proofs.Writing.{writes_more, writes_stopped}
use Rattle.cape_top.proofs.running.write_shown.Goals as goal

pub returns-in_err-write_state_if : goal.returns-in_err-write_state_if
returns-in_err-write_state_if g c =
    let p = err_from_is_err_and c.from_residual.result c.from_residual.ensures.1 in
    rw p.1 (writes_stopped g.E.Sink _ _ _ _ c.in_err-write_state_if.ensures)

pub returns-in_err-write_counts_if : goal.returns-in_err-write_counts_if
returns-in_err-write_counts_if g c =
    let p = err_from_is_err_and c.from_residual-in_err-write_counts_if.result c.from_residual-in_err-write_counts_if.ensures.1 in
    rw p.1 (writes_more g.E.Sink _ _ false _ _ _ c.in_ok-write_state_if.ensures (writes_stopped g.E.Sink _ _ _ _ c.in_err-write_counts_if.ensures))

pub returns : goal.returns
returns g c =
    writes_more g.E.Sink _ _ _ _ _ _ c.in_ok-write_state_if.ensures (writes_more g.E.Sink _ _ _ _ _ _ c.in_ok-write_counts_if.ensures c.write_work_if.ensures)
