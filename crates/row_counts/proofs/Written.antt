-- The lists, as they are written.
use Rattle.std.proofs.Common.{◌≡◌, ℕ, ◌+◌, ◌<◌, false, List, [], ◌∷◌, ◌++◌, suc, refl, ◌∙◌, arith, append_assoc}
use Rattle.micro_ir.specs.declared.op.MicroOp.{MicroOp}
use Rattle.micro_ir.specs.declared.op.MicroOp.TheVariants.{Search, UpdateBy}
use Rattle.micro_ir.specs.WorkRows.{active_row}
use Rattle.micro_ir.specs.Steps.{micro}
use Rattle.micro_ir.specs.Pieces.{clear}
use Rattle.micro_ir.proofs.PieceLists.{all-subs}
use Rattle.micro_ir.proofs.StepLists.{micros-one}
use Rattle.row_views.specs.Lists.{count_bit, spread_num}
use Rattle.row_counts.specs.declared.counts.Counting.{Counting}
use Rattle.row_counts.specs.declared.span.Span.{Span}
use Rattle.row_counts.specs.Lists.{how_at, count_bits, span_window, count_rows}

-- a list that has grown by a part
pub one-more : (first done m : List MicroOp) {all now last : List MicroOp} → last ≡ now ++ m → now ≡ first ++ done → all ≡ done ++ m → last ≡ first ++ all
one-more first done m p q r = p ∙ rw (q, r) (simp append_assoc)

pub counts-none : (w row : ℕ) (counting : Counting) → count_bits w row counting 0 ≡ []
unfolding count_bits
counts-none w row counting = refl

pub counts-more : (w row : ℕ) (counting : Counting) (n : ℕ)
    → count_bits w row counting (n + 1) ≡ count_bits w row counting n ++ count_bit w active_row row counting.wanted (how_at counting w n) n
unfolding count_bits
counts-more w row counting n = let e : n + 1 ≡ suc n = omega arith in rw e refl

pub rows-none : (w : ℕ) (span : Span) (counting : Counting) → count_rows w span counting 0 ≡ []
unfolding count_rows
rows-none w span counting = refl

pub rows-more : (w : ℕ) (span : Span) (counting : Counting) (g : ℕ)
    → count_rows w span counting (g + 1) ≡ count_rows w span counting g ++ (span_window w g span ∷ count_bits w (span.base + g) counting w)
unfolding count_rows
rows-more w span counting g = let e : g + 1 ≡ suc g = omega arith in rw e refl

pub spread-list : (w row : ℕ) → 0 < w → spread_num w row ≡ micro w (clear w row) ++ (Search 4294967295 [] false ∷ UpdateBy row w ∷ [])
unfolding spread_num
spread-list w row some = rw (micros-one w (clear w row), all-subs w some) refl
