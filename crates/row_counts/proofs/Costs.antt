-- What the lists cost, how long they are, and that a chain can run them.
use Rattle.std.proofs.Common.{◌≡◌, ℕ, zero, suc, ◌+◌, ◌*◌, ◌<◌, ◌≤◌, true, false, ltb, List, [], ◌∷◌, ◌++◌, length, refl, ◌∙◌, arith, length-append}
use Rattle.std.proofs.lemmas.Bool.{false≢true}
use Rattle.steer_net.specs.Network.{is_width}
use Rattle.micro_ir.specs.declared.op.MicroOp.{MicroOp}
use Rattle.micro_ir.specs.declared.op.MicroOp.TheVariants.{Search, UpdateBy}
use Rattle.micro_ir.specs.Measures.{counts}
use Rattle.micro_ir.specs.Pieces.{clear, commit}
use Rattle.micro_ir.specs.Replay.{AllInRange, tally}
use Rattle.micro_ir.specs.Steps.{Step, micros}
use Rattle.micro_ir.specs.Subs.{subs_of}
use Rattle.micro_ir.specs.WorkRows.{active_row, scalar_row}
use Rattle.micro_ir.proofs.Effects.{counts-same}
use Rattle.micro_ir.proofs.Lists.{tally-append, AllInRange-append}
use Rattle.micro_ir.proofs.StepLists.{tally-micros, length-micros, AllInRange-micros, RowsFit}
use Rattle.row_views.specs.Lists.{count_bit, spread_num}
use Rattle.row_counts.specs.declared.counts.Counting.{Counting}
use Rattle.row_counts.specs.declared.span.Span.{Span}
use Rattle.row_counts.specs.Costs.{Spends}
use Rattle.row_counts.specs.Lists.{how_at, count_bits, span_window, count_rows, first_window, count_first, commit_first, first_element}
use Rattle.row_counts.specs.Spans.{SpanFits}

pub spends-append : {fits : ℕ → Type 0} (xs ys : List MicroOp) {s u p n t v q m : ℕ} → Spends (counts s u p) n fits xs → Spends (counts t v q) m fits ys
    → Spends (counts (s + t) (u + v) (p + q)) (n + m) fits (xs ++ ys)
spends-append xs ys x y = record {
  cost = tally-append xs ys ∙ rw (x.cost, y.cost) refl;
  count = length-append xs ys ∙ rw (x.count, y.count) refl;
  range = λ columns f. AllInRange-append columns xs ys (x.range columns f) (y.range columns f);
}

pub spends-as : {fits : ℕ → Type 0} {ops : List MicroOp} {s u p n t v q m : ℕ} → Spends (counts s u p) n fits ops → s ≡ t → u ≡ v → p ≡ q → n ≡ m → Spends (counts t v q) m fits ops
spends-as {s = s} {u = u} {p = p} {t = t} {v = v} {q = q} x a b c d = record { cost = x.cost ∙ counts-same s u p t v q a b c; count = x.count ∙ d; range = x.range }

-- a list of steps
pub spends-steps : {fits : ℕ → Type 0} (w : ℕ) (steps : List Step) (s u n : ℕ) → tally (micros w steps) ≡ counts s u 0 → length (micros w steps) ≡ n → RowsFit steps → Spends (counts s u 0) n fits (micros w steps)
spends-steps w steps s u n cost long rows = record { cost = cost; count = long; range = λ columns f. AllInRange-micros columns w steps rows }

-- the counts of a row's bits
pub spends-bits : {fits : ℕ → Type 0} (w row : ℕ) (counting : Counting) (n : ℕ) → n ≤ 32 → Spends (counts n 0 0) (2 * n) fits (count_bits w row counting n)
unfolding count_bits tally AllInRange
spends-bits w row counting zero few = record { cost = refl; count = refl; range = λ columns f. tt }
spends-bits {fits = fits} w row counting (suc n) few =
    let last : Spends (counts 1 0 0) 2 fits (count_bit w active_row row counting.wanted (how_at counting w n) n) =
    record { cost = refl; count = refl; range = λ columns f. (tt, (omega arith, tt)) } in
    spends-as (spends-append (count_bits w row counting n) (count_bit w active_row row counting.wanted (how_at counting w n) n) (spends-bits w row counting n (omega arith)) last)
    (omega arith) refl refl (omega arith)

-- a window of a group
spends-window : (w g : ℕ) (span : Span) → is_width w ≡ true → Spends (counts 0 0 0) 1 (λ columns. SpanFits w columns span) (span_window w g span ∷ [])
unfolding tally AllInRange
spends-window w g span width = record {
  cost = refl;
  count = refl;
  range = λ columns f. ((omega arith, width, λ masked e a b c d. let m = f.mask masked in omega (arith, m)), tt);
}

-- and of element 0
pub spends-first_window : {fits : ℕ → Type 0} (w : ℕ) (span : Span) → is_width w ≡ true → Spends (counts 0 0 0) 1 fits (first_window w span ∷ [])
unfolding tally AllInRange
spends-first_window w span width = record {
  cost = refl;
  count = refl;
  range = λ columns f. ((omega arith, width, λ masked. absurd (false≢true masked)), tt);
}

-- the counts of the first registers of a group
pub spends-rows : (w : ℕ) (span : Span) (counting : Counting) (g : ℕ) → is_width w ≡ true → w ≤ 32
    → Spends (counts (g * w) 0 0) (g * (2 * w + 1)) (λ columns. SpanFits w columns span) (count_rows w span counting g)
unfolding count_rows tally AllInRange
spends-rows w span counting zero width few =
    let none : Spends (counts 0 0 0) 0 (λ columns. SpanFits w columns span) [] = record { cost = refl; count = refl; range = λ columns f. tt } in
    spends-as none (omega arith) refl refl (omega arith)
spends-rows w span counting (suc g) width few =
    let bits = count_bits w (span.base + g) counting w in
    spends-as (spends-append (count_rows w span counting g) (span_window w g span ∷ bits) (spends-rows w span counting g width few)
    (spends-append (span_window w g span ∷ []) bits (spends-window w g span width) (spends-bits w (span.base + g) counting w few)))
    (omega arith) refl refl (omega arith)

-- the counts of element 0
pub spends-first : {fits : ℕ → Type 0} (w row : ℕ) (span : Span) (counting : Counting) → is_width w ≡ true → w ≤ 32 → Spends (counts w 0 0) (2 * w + 1) fits (count_first w row span counting)
spends-first w row span counting width few =
    spends-as (spends-append (first_window w span ∷ []) (count_bits w row counting w) (spends-first_window w span width) (spends-bits w row counting w few))
    (omega arith) refl refl (omega arith)

-- the number into a row
pub spends-spread : {fits : ℕ → Type 0} (w row : ℕ) → is_width w ≡ true → row < 64 → Spends (counts 2 2 0) 4 fits (spread_num w row)
unfolding spread_num tally AllInRange
spends-spread {fits = fits} w row width low =
    let steps : List Step = clear w row ∷ [] in
    let last : List MicroOp = Search (subs_of w (λ j. ltb j w)) [] false ∷ UpdateBy row w ∷ [] in
    let ones : Spends (counts 1 1 0) 2 fits (micros w steps) = spends-steps w steps 1 1 2 (tally-micros w steps) (length-micros w steps) (low, omega arith, tt) in
    let rest : Spends (counts 1 1 0) 2 fits last = record { cost = refl; count = refl; range = λ columns f. (tt, ((low, width), tt)) } in
    spends-append (micros w steps) last ones rest

-- and into element 0 of a register
pub spends-commit : {fits : ℕ → Type 0} (w : ℕ) (span : Span) (to : ℕ) → is_width w ≡ true → to < 32 → Spends (counts 2 2 0) 5 fits (commit_first w span to)
spends-commit {fits = fits} w span to width register =
    let steps = commit w scalar_row to in
    let rows : RowsFit steps = (omega arith, omega arith, (omega arith, omega arith, tt)) in
    let ones : Spends (counts 2 2 0) 4 fits (micros w steps) = spends-steps w steps 2 2 4 (tally-micros w steps) (length-micros w steps) rows in
    spends-append (first_window w span ∷ []) (micros w steps) (spends-first_window w span width) ones

pub spends-element : {fits : ℕ → Type 0} (w : ℕ) (span : Span) (to : ℕ) → is_width w ≡ true → to < 32 → Spends (counts 4 4 0) 9 fits (first_element w span to)
spends-element w span to width register = spends-append (spread_num w scalar_row) (commit_first w span to) (spends-spread w scalar_row width (omega arith)) (spends-commit w span to width register)
