use Rattle.std.proofs.Common.{false}
use Rattle.std.proofs.lemmas.Result.{err_from_is_err_and}
use Rattle.cape_io.proofs.Writing.{writes_more, writes_stopped}
use Rattle.run_texts.proofs.WorkLemmas.{slice_text}
use Rattle.run_texts.proofs.work.write_slice.Goals as goal

pub returns-in_err-write_piece : goal.returns-in_err-write_piece
returns-in_err-write_piece g c =
    let p = err_from_is_err_and c.from_residual.result c.from_residual.ensures.1 in
    rw p.1 (writes_stopped g.E.Sink _ _ _ _ (rw c.slice_name.ensures at c.in_err-write_piece.ensures))

pub returns-in_err-write_row : goal.returns-in_err-write_row
returns-in_err-write_row g c =
    let text = slice_text c.args.chain.now c.row.result.now c.row.ensures.len c.args.sub c.args.row c.row.ensures.bits in
    let p = err_from_is_err_and c.from_residual-in_err-write_row.result c.from_residual-in_err-write_row.ensures.1 in
    rw p.1 (writes_more g.E.Sink _ _ false _ _ _ (rw c.slice_name.ensures at c.in_ok-write_piece.ensures)
    (writes_stopped g.E.Sink _ _ _ _ (rw text at c.in_err-write_row.ensures)))

pub returns : goal.returns
returns g c =
    let text = slice_text c.args.chain.now c.row.result.now c.row.ensures.len c.args.sub c.args.row c.row.ensures.bits in
    writes_more g.E.Sink _ _ _ _ _ _ (rw c.slice_name.ensures at c.in_ok-write_piece.ensures)
    (writes_more g.E.Sink _ _ _ _ _ _ (rw text at c.in_ok-write_row.ensures) c.write_end.ensures)
