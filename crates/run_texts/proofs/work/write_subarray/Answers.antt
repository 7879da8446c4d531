use Rattle.std.proofs.Common.{false}
use Rattle.std.proofs.lemmas.Result.{err_from_is_err_and}
use Rattle.cape_io.proofs.Writing.{writes_more, writes_stopped}
use Rattle.run_texts.proofs.work.write_subarray.Goals as goal

pub returns-in_err-write_slices : goal.returns-in_err-write_slices
returns-in_err-write_slices g c =
    let p = err_from_is_err_and c.from_residual.result c.from_residual.ensures.1 in
    rw p.1 (writes_stopped g.E.Sink _ _ _ _ c.in_err-write_slices.ensures)

pub returns : goal.returns
returns g c = writes_more g.E.Sink _ _ _ _ _ _ c.in_ok-write_slices.ensures c.write_tags.ensures
