use Rattle.std.proofs.Common.{false}
use Rattle.std.proofs.lemmas.Result.{err_from_is_err_and}
use Rattle.cape_io.proofs.Writing.{writes_more, writes_stopped}
use Rattle.debug_texts.proofs.writing.write_parts.Goals as goal

pub returns-in_err-write_line : goal.returns-in_err-write_line
returns-in_err-write_line g c =
    let p = err_from_is_err_and c.from_residual.result c.from_residual.ensures.1 in
    rw p.1 (writes_stopped g.O.Sink _ _ _ _ c.in_err-write_line.ensures)

pub returns-in_err-write_line-2 : goal.returns-in_err-write_line-2
returns-in_err-write_line-2 g c =
    let p = err_from_is_err_and c.from_residual-in_err-write_line-2.result c.from_residual-in_err-write_line-2.ensures.1 in
    rw p.1 (writes_more g.O.Sink _ _ false _ _ _ c.in_ok-write_line.ensures (writes_stopped g.O.Sink _ _ _ _ c.in_err-write_line-2.ensures))

pub returns : goal.returns
returns g c = writes_more g.O.Sink _ _ _ _ _ _ c.in_ok-write_line.ensures (writes_more g.O.Sink _ _ _ _ _ _ c.in_ok-write_line-2.ensures c.write_text.ensures)
