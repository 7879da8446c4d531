use Rattle.std.proofs.Common.{◌≡◌, ◌<◌, ◌+◌, ◌*◌, ◌∙◌, ap, sym, arith, refl, length}
use Rattle.bit_rows.specs.Words.{words_for, IsTrimmed}
use Rattle.cam_chain.specs.ChainValue.{ChainValue}
use Rattle.cam_chain.proofs.SlicesLemmas.{columns-slices_of}
use Rattle.cam_chain.proofs.Rows.{lent_long}
use Rattle.cam_chain.proofs.WordRows.{row_written}
use Rattle.cam_chain.proofs.chain.ChainPlanes.set_words.Goals as goal

pub set_words-requires : goal.set_words-requires
set_words-requires c =
    let i = c.self.invariant in
    let at = c.args.sub * 64 + c.args.row in
    let k : at < length c.self.inside.rows.items = omega (arith, i.row_count, c.requires.sub, c.requires.row) in
    let l : length c.index_mut.result.now ≡ c.self.inside.columns = lent_long c.self.inside.columns c.self.inside.rows.items at c.index_mut.result.now i.rows_long k c.index_mut.ensures.value in
    let e : c.self.inside.columns ≡ c.args.self.now.columns = ap (λ (v : ChainValue). v.columns) c.self.view_is in
    let n = l ∙ e ∙ sym (columns-slices_of c.args.self.now) in
    record { len = c.requires.len ∙ ap words_for (sym n); trimmed = λ k h. c.requires.trimmed k (omega (arith, n)) }

pub returns-clause-slices : goal.returns-clause-slices
returns-clause-slices c =
    rw (← c.self.view_is) (row_written _ _ c.args.sub c.args.row c.set_words.new.self c.args.words.now c.requires.sub c.requires.row c.self.invariant.row_count c.set_words.ensures.bits refl refl refl)
