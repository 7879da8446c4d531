-- What the lists cost.
use Rattle.std.proofs.Common.{◌≡◌, ℕ, zero, suc, ◌+◌, ◌-◌, ◌*◌, ◌<◌, ◌≤◌, Bool, true, false, cond, not, min, ltb, List, [], ◌∷◌, ◌++◌, refl, ◌∙◌, arith}
use Rattle.std.proofs.lemmas.Bool.{false≢true}
use Rattle.bit_laws.specs.Numbers.{bit_of}
use Rattle.steer_net.specs.Network.{is_width}
use Rattle.micro_ir.specs.declared.op.MicroOp.{MicroOp}
use Rattle.micro_ir.specs.declared.op.MicroOp.TheVariants.{SetNum, Window}
use Rattle.micro_ir.specs.declared.place.Place.{Place}
use Rattle.micro_ir.specs.Measures.{counts}
use Rattle.micro_ir.specs.Pieces.{clear, above}
use Rattle.micro_ir.specs.Replay.{AllInRange, tally}
use Rattle.micro_ir.specs.Steps.{Step, micros}
use Rattle.micro_ir.specs.WorkRows.{active_row, free_row}
use Rattle.micro_ir.proofs.StepLists.{steps_counts, steps_length, tally-micros, length-micros, AllInRange-micros, RowsFit}
use Rattle.row_views.specs.Lists.{count_bit, spread_num}
use Rattle.row_counts.specs.declared.span.Span.{Span}
use Rattle.row_counts.specs.Costs.{Spends}
use Rattle.row_counts.specs.Lists.{first_element}
use Rattle.row_counts.specs.Spans.{SpanFits}
use Rattle.row_counts.proofs.Costs.{spends-append, spends-as, spends-steps, spends-spread, spends-element}
use Rattle.row_orders.specs.declared.orders.Order.{Order}
use Rattle.row_orders.specs.declared.sources.Source.{Source}
use Rattle.row_orders.specs.Kinds.{start_of, order_list}
use Rattle.row_orders.specs.Laws.{SpendsOrder}
use Rattle.row_orders.specs.Lists.{sources, cand, begin_row, begin_rows, stay_step, stay, stay_rows, stays_to, how_of, compare_rows, order_bits}

-- a window that a chain may run
abbrev Reaches : (fits : ℕ → Type 0) (w : ℕ) → Source → Type 0
Reaches fits w r = (columns : ℕ) → fits columns → AllInRange columns (Window active_row w r.first r.from r.to r.masked ∷ [])

spends-begin : {fits : ℕ → Type 0} (w : ℕ) (r : Source) (i : ℕ) → i ≤ 8 → Reaches fits w r → Spends (counts 2 2 0) 5 fits (begin_row w r i)
unfolding tally AllInRange
spends-begin {fits = fits} w r i few reaches =
    let steps : List Step = clear w (cand i) ∷ above (active_row ∷ []) (1 ∷ []) (cand i) (w - 1) 0 ∷ [] in
    let rows : RowsFit steps = (omega arith, omega arith, (omega arith, omega arith, tt)) in
    let one : Spends (counts 0 0 0) 1 fits (Window active_row w r.first r.from r.to r.masked ∷ []) = record { cost = refl; count = refl; range = reaches } in
    let rest : Spends (counts 2 2 0) 4 fits (micros w steps) = spends-steps w steps 2 2 4 (tally-micros w steps) (length-micros w steps) rows in
    spends-append (Window active_row w r.first r.from r.to r.masked ∷ []) (micros w steps) one rest

none : {fits : ℕ → Type 0} → Spends (counts 0 0 0) 0 fits []
unfolding tally AllInRange
none = record { cost = refl; count = refl; range = λ columns f. tt }

spends-begins : {fits : ℕ → Type 0} (w : ℕ) (src : ℕ → Source) (n : ℕ) → n ≤ 9 → ((i : ℕ) → i < n → Reaches fits w (src i)) → Spends (counts (n * 2) (n * 2) 0) (n * 5) fits (begin_rows w src n)
unfolding begin_rows
spends-begins w src zero few reaches = spends-as none (omega arith) (omega arith) refl (omega arith)
spends-begins w src (suc n) few reaches =
    spends-as (spends-append (begin_rows w src n) (begin_row w (src n) n) (spends-begins w src n (omega arith) (λ i l. reaches i (omega arith))) (spends-begin w (src n) n (omega arith) (reaches n (omega arith))))
    (omega arith) (omega arith) refl (omega arith)

spends-compares : {fits : ℕ → Type 0} (w : ℕ) (src : ℕ → Source) (start j n : ℕ) → j < 32 → Spends (counts n 0 0) (n * 2) fits (compare_rows w src start j n)
unfolding compare_rows tally AllInRange
spends-compares w src start j zero below = spends-as none (omega arith) refl refl (omega arith)
spends-compares {fits = fits} w src start j (suc n) below =
    let last : List MicroOp = count_bit w (cand n) ((src n).row) (not (bit_of start j)) (how_of (bit_of start j)) j in
    let one : Spends (counts 1 0 0) 2 fits last = record { cost = refl; count = refl; range = λ columns f. (tt, (below, tt)) } in
    spends-as (spends-append (compare_rows w src start j n) last (spends-compares w src start j n below) one) (omega arith) refl refl (omega arith)

-- a step of three values that moves one place
spends-stay : {fits : ℕ → Type 0} (w : ℕ) (src : ℕ → Source) (start j i : ℕ) → i ≤ 8 → Spends (counts 3 1 1) 5 fits (micros w (stay src start j i ∷ []))
spends-stay {fits = fits} w src start j i few =
    let st = bit_of start (j + 1) in
    let steps : List Step = stay src start j i ∷ [] in
    let rows : RowsFit steps = (omega arith, omega arith, tt) in
    record {
      cost = tally-micros w steps ∙ three st;
      count = length-micros w steps ∙ five st;
      range = λ columns f. AllInRange-micros columns w steps rows;
    }
  where
    three : (b : Bool) → steps_counts (stay_step ((src i).row) i b (j + 1) ∷ []) ≡ counts 3 1 1
    three true = refl
    three false = refl

    five : (b : Bool) → steps_length (stay_step ((src i).row) i b (j + 1) ∷ []) ≡ 5
    five true = refl
    five false = refl

spends-stays : {fits : ℕ → Type 0} (w : ℕ) (src : ℕ → Source) (start j n : ℕ) → n ≤ 9 → Spends (counts (n * 3) n n) (n * 5) fits (stay_rows w src start j n)
unfolding stay_rows
spends-stays w src start j zero few = spends-as none (omega arith) refl refl (omega arith)
spends-stays w src start j (suc n) few =
    spends-as (spends-append (stay_rows w src start j n) (micros w (stay src start j n ∷ [])) (spends-stays w src start j n (omega arith)) (spends-stay w src start j n (omega arith)))
    (omega arith) (omega arith) (omega arith) (omega arith)

-- all bits: each but the lowest has candidates below
spends-bits : {fits : ℕ → Type 0} (w : ℕ) (src : ℕ → Source) (start n j : ℕ) → is_width w ≡ true → n ≤ 9 → j < 32
    → Spends (counts (suc j * (n + 2) + j * (n * 3)) (suc j * 2 + j * n) (j * n)) (suc j * (n * 2 + 4) + j * (n * 5)) fits (order_bits w n src start (suc j))
unfolding order_bits stays_to
spends-bits {fits = fits} w src start n zero width few below =
    let two : Spends (counts 2 2 0) 4 fits (spread_num w free_row) = spends-spread w free_row width (omega arith) in
    spends-as (spends-append (compare_rows w src start 0 n ++ (spread_num w free_row ++ [])) []
    (spends-append (compare_rows w src start 0 n) (spread_num w free_row ++ []) (spends-compares w src start 0 n below) (spends-append (spread_num w free_row) [] two none)) none)
    (omega arith) (omega arith) (omega arith) (omega arith)
spends-bits {fits = fits} w src start n (suc j) width few below =
    let two : Spends (counts 2 2 0) 4 fits (spread_num w free_row) = spends-spread w free_row width (omega arith) in
    let stays = stay_rows w src start j n in
    spends-as (spends-append (compare_rows w src start (suc j) n ++ (spread_num w free_row ++ stays)) (order_bits w n src start (suc j))
    (spends-append (compare_rows w src start (suc j) n) (spread_num w free_row ++ stays) (spends-compares w src start (suc j) n below) (spends-append (spread_num w free_row) stays two (spends-stays w src start j n few)))
    (spends-bits w src start n j width few (omega arith)))
    (omega arith) (omega arith) (omega arith) (omega arith)

-- the windows of the rows of a span
reach-one : (w b : ℕ) (span : Span) (i : ℕ) (t : Bool) → is_width w ≡ true
    → Reaches (λ columns. SpanFits w columns span) w
    (cond t (record { row = span.base + i; first = i * span.per; from = span.from; to = span.to; masked = span.masked })
    (record { row = b; first = 0; from = span.from; to = min 1 span.to; masked = false }))
unfolding AllInRange
reach-one w b span i true width columns f = ((omega arith, width, λ masked e p q r s. let m = f.mask masked in omega (arith, m)), tt)
reach-one w b span i false width columns f = ((omega arith, width, λ masked. absurd (false≢true masked)), tt)

reach-sources : (w b : ℕ) (span : Span) (i : ℕ) → is_width w ≡ true → Reaches (λ columns. SpanFits w columns span) w (sources span b i)
reach-sources w b span i width = reach-one w b span i (ltb i span.regs) width

pub order-spends : (kind : Order) (w : ℕ) (at : Place) (span : Span) → is_width w ≡ true → 0 < w → w ≤ 32 → span.regs ≤ 8 → at.to < 32 → SpendsOrder kind w at span
unfolding order_list tally AllInRange
order-spends kind zero at span width some few regs register = absurd (omega arith)
order-spends kind (suc j) at span width some few regs register =
    let w = suc j in
    let n = span.regs + 1 in
    let src : ℕ → Source = sources span at.b in
    let start = start_of kind w in
    let fits : ℕ → Type 0 = λ columns. SpanFits w columns span in
    let first : List MicroOp = SetNum start ∷ [] in
    let one : Spends (counts 0 0 0) 1 fits first = record { cost = refl; count = refl; range = λ columns f. (tt, tt) } in
    let begins : Spends (counts (n * 2) (n * 2) 0) (n * 5) fits (begin_rows w src n) = spends-begins w src n (omega arith) (λ i l. reach-sources w at.b span i width) in
    let all : Spends (counts (w * (n + 2) + j * (n * 3)) (w * 2 + j * n) (j * n)) (w * (n * 2 + 4) + j * (n * 5)) fits (order_bits w n src start w) = spends-bits w src start n j width (omega arith) (omega arith) in
    let last : Spends (counts 4 4 0) 9 fits (first_element w span at.to) = spends-element w span at.to width register in
    spends-as (spends-append (first ++ (begin_rows w src n ++ order_bits w n src start w)) (first_element w span at.to)
    (spends-append first (begin_rows w src n ++ order_bits w n src start w) one (spends-append (begin_rows w src n) (order_bits w n src start w) begins all)) last)
    (searches n j) (updates n j) (passes n j) (long span.regs j)
  where
    searches : (n j : ℕ) → 0 + (n * 2 + (suc j * (n + 2) + j * (n * 3))) + 4 ≡ n * (4 * suc j - 1) + 2 * suc j + 4
    searches n j = let e : 4 * suc j - 1 ≡ 4 * j + 3 = omega arith in rw e (omega arith)

    updates : (n j : ℕ) → 0 + (n * 2 + (suc j * 2 + j * n)) + 4 ≡ n * (suc j + 1) + 2 * suc j + 4
    updates n j = omega arith

    passes : (n j : ℕ) → 0 + (0 + j * n) + 0 ≡ n * (suc j - 1)
    passes n j = let e : suc j - 1 ≡ j = omega arith in rw e (omega arith)

    long : (r j : ℕ) → 1 + ((r + 1) * 5 + (suc j * ((r + 1) * 2 + 4) + j * ((r + 1) * 5))) + 9 ≡ suc j * (7 * (r + 1) + 4) + 10
    long r j = omega arith
