use Rattle.std.proofs.Common.{false}
use Rattle.std.proofs.lemmas.Result.{err_from_is_err_and}
use Rattle.cape_io.proofs.Writing.{writes_more, writes_stopped}
use Rattle.debug_texts.specs.ShownTexts.{replayed_line}
use Rattle.debug_texts.proofs.RowLemmas.{row_shown, tags_shown, columns_of_slices}
use Rattle.debug_texts.proofs.rows.write_replayed.Goals as goal

pub returns-in_err-write_row_after : goal.returns-in_err-write_row_after
unfolding replayed_line
returns-in_err-write_row_after g c =
    let shown = row_shown c.args.chain.now c.args.sub c.row.result.now c.requires.sub c.row.ensures.len c.args.row c.row.ensures.bits in
    let p = err_from_is_err_and c.from_residual.result c.from_residual.ensures.1 in
    rw (p.1, columns_of_slices c.args.chain.now) (writes_stopped g.O.Sink _ _ _ _ (rw (c.replayed_head.ensures, shown) at c.in_err-write_row_after.ensures))

pub returns-in_err-write_row_after-2 : goal.returns-in_err-write_row_after-2
unfolding replayed_line
returns-in_err-write_row_after-2 g c =
    let shown = row_shown c.args.chain.now c.args.sub c.row.result.now c.requires.sub c.row.ensures.len c.args.row c.row.ensures.bits in
    let tags = tags_shown c.args.chain.now c.args.sub c.tags.result.now c.requires.sub c.tags.ensures.len c.tags.ensures.bits in
    let p = err_from_is_err_and c.from_residual-in_err-write_row_after-2.result c.from_residual-in_err-write_row_after-2.ensures.1 in
    rw (p.1, columns_of_slices c.args.chain.now)
    (writes_more g.O.Sink _ _ false _ _ _ (rw (c.replayed_head.ensures, shown) at c.in_ok-write_row_after.ensures)
    (writes_stopped g.O.Sink _ _ _ _ (rw (c.tags_name.ensures, tags) at c.in_err-write_row_after-2.ensures)))

pub returns : goal.returns
unfolding replayed_line
returns g c =
    let shown = row_shown c.args.chain.now c.args.sub c.row.result.now c.requires.sub c.row.ensures.len c.args.row c.row.ensures.bits in
    let tags = tags_shown c.args.chain.now c.args.sub c.tags.result.now c.requires.sub c.tags.ensures.len c.tags.ensures.bits in
    rw (columns_of_slices c.args.chain.now)
    (writes_more g.O.Sink _ _ _ _ _ _ (rw (c.replayed_head.ensures, shown) at c.in_ok-write_row_after.ensures)
    (writes_more g.O.Sink _ _ _ _ _ _ (rw (c.tags_name.ensures, tags) at c.in_ok-write_row_after-2.ensures) c.write_text.ensures))
