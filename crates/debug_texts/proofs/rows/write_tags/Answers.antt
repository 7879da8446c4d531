use Rattle.std.proofs.lemmas.Result.{err_from_is_err_and}
use Rattle.cape_io.proofs.Writing.{writes_more, writes_stopped}
use Rattle.debug_texts.specs.ShownTexts.{tags_line}
use Rattle.debug_texts.proofs.RowLemmas.{tags_shown, columns_of_slices}
use Rattle.debug_texts.proofs.rows.write_tags.Goals as goal

pub returns-in_err-write_row_after : goal.returns-in_err-write_row_after
unfolding tags_line
returns-in_err-write_row_after g c =
    let shown = tags_shown c.args.chain.now c.args.sub c.tags.result.now c.requires c.tags.ensures.len c.tags.ensures.bits in
    let p = err_from_is_err_and c.from_residual.result c.from_residual.ensures.1 in
    rw (p.1, columns_of_slices c.args.chain.now) (writes_stopped g.O.Sink _ _ _ _ (rw (c.tags_head.ensures, shown) at c.in_err-write_row_after.ensures))

pub returns : goal.returns
unfolding tags_line
returns g c =
    let shown = tags_shown c.args.chain.now c.args.sub c.tags.result.now c.requires c.tags.ensures.len c.tags.ensures.bits in
    rw (columns_of_slices c.args.chain.now) (writes_more g.O.Sink _ _ _ _ _ _ (rw (c.tags_head.ensures, shown) at c.in_ok-write_row_after.ensures) c.write_text.ensures)
