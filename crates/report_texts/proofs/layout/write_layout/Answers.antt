use Rattle.std.proofs.Common.{false}
use Rattle.std.proofs.lemmas.Result.{err_from_is_err_and}
use Rattle.cape_io.proofs.Writing.{writes_more, writes_stopped}
use Rattle.report_texts.specs.Layouts.{layout_text}
use Rattle.report_texts.proofs.layout.write_layout.Goals as goal

pub returns-in_err-write_line : goal.returns-in_err-write_line
unfolding layout_text
returns-in_err-write_line g c =
    let p = err_from_is_err_and c.from_residual.result c.from_residual.ensures.1 in
    rw p.1 (writes_stopped g.O.Sink _ _ _ _ (rw c.entry_line.ensures at c.in_err-write_line.ensures))

pub returns : goal.returns
unfolding layout_text
returns g c =
    writes_more g.O.Sink _ _ _ _ _ _ (rw c.entry_line.ensures at c.in_ok-write_line.ensures) c.write_maps.ensures
