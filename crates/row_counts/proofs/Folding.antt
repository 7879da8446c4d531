-- The counts of a group and of element 0 of a row make the fold that they follow, and spreading brings it into the scalar row.
use Rattle.std.proofs.Common.{◌≡◌, ◌≢◌, ℕ, zero, suc, ◌+◌, ◌*◌, ◌/◌, ◌<◌, ◌≤◌, Bool, eqb, List, ◌∷◌, ◌++◌, refl, sym, ◌∙◌, ap, arith}
use Rattle.std.proofs.Math.Nat.{mul-pos, le-mul_of_pos_right}
use Rattle.std.specs.Int.{bit_at}
use Rattle.bit_laws.specs.Numbers.{number, low, bit_of}
use Rattle.bit_laws.proofs.Numbers.{number-same, number-bits}
use Rattle.bit_rows.specs.Slices.{Slices}
use Rattle.fold_laws.specs.Folds.{fold_chosen}
use Rattle.row_counts.proofs.Chosen.{fold-map}
use Rattle.steer_net.specs.Moves.{per_row}
use Rattle.steer_net.specs.Network.{bit_in}
use Rattle.micro_ir.specs.declared.op.MicroOp.{MicroOp}
use Rattle.micro_ir.specs.declared.op.MicroOp.TheVariants.{SetNum}
use Rattle.micro_ir.specs.ControlNumbers.{with_num}
use Rattle.micro_ir.specs.Replay.{replay}
use Rattle.micro_ir.specs.WorkRows.{active_row, scalar_row}
use Rattle.micro_ir.proofs.Lift.{replay-columns}
use Rattle.micro_ir.proofs.Lists.{replay-append}
use Rattle.row_views.specs.Lists.{spread_num}
use Rattle.row_views.specs.Views.{view}
use Rattle.row_views.proofs.Spread.{spread-num}
use Rattle.row_views.proofs.Views.{view-in}
use Rattle.row_counts.specs.declared.counts.Counting.{Counting}
use Rattle.row_counts.specs.declared.span.Span.{Span}
use Rattle.row_counts.specs.Folds.{group_element, is_left_in, fold_of, Folds}
use Rattle.row_counts.specs.Lists.{count_rows, count_first}
use Rattle.row_counts.specs.Puts.{Puts}
use Rattle.row_counts.specs.Spans.{SpanFits}
use Rattle.row_counts.proofs.Groups.{Takes, group-takes, first-takes, up-to}
use Rattle.row_counts.proofs.Rows.{group-bits, first-bits, row-element, spread-puts}

-- from a start on, the counts of a group, and of element 0 of a row
abbrev pub counts_from : (w wide b start : ℕ) → Span → (group first : Counting) → List MicroOp
counts_from w wide b start span group first = SetNum start ∷ (count_rows w span group span.regs ++ count_first wide b span first)

-- What is measured of the control number follows a fold: counts take the elements into it as the step does, in any order, and
-- the start adds nothing to element 0.
pub record Follows (step : (a e : ℕ) → ℕ) (extend : ℕ → ℕ) (w wide start : ℕ) (counting_group counting_first : Counting) (measure : ℕ → ℕ) : Type 0 where
  pub take : (a e : ℕ) → ℕ
  pub value : ℕ → ℕ
  pub first_value : ℕ → ℕ
  pub group : Takes w counting_group measure take value
  pub first : Takes wide counting_first measure take first_value
  pub turn : (a e f : ℕ) → take (take a e) f ≡ take (take a f) e
  pub begins : (x : ℕ) → take (measure start) (first_value x) ≡ measure x
  pub steps : (a e : ℕ) → measure (step a (extend e)) ≡ take (measure a) (value e)

-- The two widths, and that the row of element 0 is not the one that the windows write.
pub record Widths (w wide b : ℕ) : Type 0 where
  pub some : 0 < w
  pub lanes : 32 / w * w ≡ 32
  pub wide_some : 0 < wide
  pub wide_lanes : 32 / wide * wide ≡ 32
  pub apart : b ≢ active_row

lane_some : (n w : ℕ) → n * w ≡ 32 → 0 < n
lane_some zero w lanes = let z : 0 * w ≡ 0 = omega arith in omega (arith, lanes, z)
lane_some (suc n) w lanes = omega arith

-- how many columns there are, by the elements of a register
columns_for : (c w per : ℕ) → 32 / w * w ≡ 32 → per ≡ c * (32 / w) → 0 < per → per ≤ 8192 → (0 < c) × (c ≤ 8192)
columns_for c w per lanes fits some few =
    let n = 32 / w in
    let all : 0 < c * n = rw fits at some in
    let most : c * n ≤ 8192 = rw fits at few in
    let n_some : 0 < n = lane_some n w lanes in
    let over : c ≤ c * n = le-mul_of_pos_right c n_some in
    (positive c n all, omega (arith, over, most))
  where
    positive : (c n : ℕ) → 0 < c * n → 0 < c
    positive zero n l = let z : 0 * n ≡ 0 = omega arith in omega (arith, l, z)
    positive (suc c) n l = omega arith

-- element 0 of a row stays where the row does
same-first : (w b : ℕ) (s t : Slices) → 0 < w → 32 / w * w ≡ 32 → 0 < per_row w s → t.columns ≡ s.columns → ((n : ℕ) → bit_in t b n ≡ bit_in s b n)
    → group_element w b t 0 ≡ group_element w b s 0
same-first w b s t pos lanes some columns same =
    let some_t : 0 < per_row w t = rw columns some in
    sym (first w b t pos lanes some_t)
    ∙ number-same w (view w t 0 (b + 0)) (view w s 0 (b + 0)) (λ j l. view-in w t 0 (b + 0) j l ∙ plain (λ r. bit_in t r (0 * w + j) ≡ bit_in s r (0 * w + j)) (same (0 * w + j)) ∙ sym (view-in w s 0 (b + 0) j l))
    ∙ first w b s pos lanes some
  where
    plain : (P : ℕ → Type 0) → P b → P (b + 0)
    plain P p = let z : b + 0 ≡ b = omega arith in rw z p

    first : (w b : ℕ) (s : Slices) → 0 < w → 32 / w * w ≡ 32 → 0 < per_row w s → number w (view w s 0 (b + 0)) ≡ group_element w b s 0
    first w b s pos lanes some = let y : 0 * per_row w s + 0 ≡ 0 = omega arith in rw y at (row-element w b 0 0 s pos lanes some)

-- what the counts make of the control number
follows-fold : (step : (a e : ℕ) → ℕ) (extend : ℕ → ℕ) (w wide b start : ℕ) (span : Span) (group first : Counting) (measure : ℕ → ℕ) (s : Slices)
    → Follows step extend w wide start group first measure → Widths w wide b → SpanFits w s.columns span → span.from ≡ 0 → 0 < span.to
    → measure (replay (counts_from w wide b start span group first) s).num ≡ measure (fold_of step extend w wide b span s)
unfolding replay
follows-fold step extend w wide b start span group first measure s follows widths fits from any =
    let s0 : Slices = with_num start s in
    let rows = count_rows w span group span.regs in
    let last = count_first wide b span first in
    let s1 : Slices = replay rows s0 in
    let is = fits.group in
    let c = columns_for s.columns w span.per widths.lanes fits.per is.per_some is.per_few in
    let few : s.columns ≤ 8192 = c.1 in
    let cols : s1.columns ≡ s.columns = replay-columns rows s0 in
    let few1 : s1.columns ≤ 8192 = rw cols few in
    let some : 0 < per_row wide s = mul-pos c.0 (lane_some (32 / wide) wide widths.wide_lanes) in
    let some1 : 0 < per_row wide s1 = rw cols some in
    let room : span.base + span.regs ≤ 32 = is.room in
    let to_le : span.to ≤ span.regs * per_row w s = rw fits.per at is.to in
    let left : ℕ → Bool = is_left_in span s in
    let el : ℕ → ℕ = group_element w span.base s in
    let x : ℕ = group_element wide b s 0 in
    let take = follows.take in
    let value = follows.value in
    let f : ℕ → ℕ = λ e. value (el e) in
    let of_group : measure s1.num ≡ fold_chosen take (measure start) left f span.to =
    group-takes w span group measure take value s0 follows.group widths.some widths.lanes few fits.per span.regs room
    ∙ up-to take (measure start) span.from span.to (span.regs * per_row w s) span.masked (bit_in s 0) f from to_le in
    let same : group_element wide b s1 0 ≡ x = same-first wide b s s1 widths.wide_some widths.wide_lanes some cols (λ n. group-bits w span group span.regs s0 b n widths.apart) in
    ap (λ (z : Slices). measure z.num) (replay-append rows last s0)
    ∙ first-takes wide b span first measure take follows.first_value s1 follows.first widths.wide_some widths.wide_lanes few1 some1 widths.apart from any
    ∙ ap (λ (n : ℕ). take (measure s1.num) (follows.first_value n)) same
    ∙ ap (λ (a : ℕ). take a (follows.first_value x)) of_group
    ∙ fold-map (λ a. take a (follows.first_value x)) take take (measure start) left f f span.to (λ a k l. follows.turn a (f k) (follows.first_value x))
    ∙ ap (λ (a : ℕ). fold_chosen take a left f span.to) (follows.begins x)
    ∙ sym (fold-map measure step take x left (λ e. extend (el e)) f span.to (λ a k l. follows.steps a (el k)))

-- counts whose number at `wide` bits is the fold bring it into the scalar row.
folds-by : (step : (a e : ℕ) → ℕ) (extend : ℕ → ℕ) (w wide b start : ℕ) (span : Span) (group first : Counting) → Widths w wide b
    → ((s : Slices) → SpanFits w s.columns span → span.from ≡ 0 → 0 < span.to
    → low wide (replay (counts_from w wide b start span group first) s).num ≡ low wide (fold_of step extend w wide b span s))
    → Folds step extend w wide b span (counts_from w wide b start span group first ++ spread_num wide scalar_row)
unfolding Folds replay
folds-by step extend w wide b start span group first widths number s fits from =
    let s0 : Slices = with_num start s in
    let rows = count_rows w span group span.regs in
    let last = count_first wide b span first in
    let counts = counts_from w wide b start span group first in
    let s1 : Slices = replay rows s0 in
    let s2 : Slices = replay counts s in
    let t : Slices = replay (counts ++ spread_num wide scalar_row) s in
    let split : t ≡ replay (spread_num wide scalar_row) s2 = replay-append counts (spread_num wide scalar_row) s in
    let num : t.num ≡ s2.num = ap (λ (z : Slices). z.num) split ∙ spread-num wide scalar_row s2 in
    let kept : (r at : ℕ) → r < 32 → bit_in s2 r at ≡ bit_in s r at =
    λ r at l. let o : r ≢ active_row = omega arith in
    ap (λ (z : Slices). bit_in z r at) (replay-append rows last s0) ∙ first-bits wide b span first s1 r at o ∙ group-bits w span group span.regs s0 r at o in
    let puts : Puts wide s2.num s (replay (spread_num wide scalar_row) s2) =
    spread-puts wide s2.num s s2 widths.wide_some widths.wide_lanes (replay-columns counts s) kept (λ j l. refl) in
    record {
      puts = rw (num, split) puts;
      number = λ any. ap (low wide) num ∙ number s fits from any;
    }

-- Counts whose low bits follow the fold bring it into the scalar row.
pub folds-low : (step : (a e : ℕ) → ℕ) (extend : ℕ → ℕ) (w wide b start : ℕ) (span : Span) (group first : Counting) → Widths w wide b
    → Follows step extend w wide start group first (low wide) → Folds step extend w wide b span (counts_from w wide b start span group first ++ spread_num wide scalar_row)
folds-low step extend w wide b start span group first widths follows =
    folds-by step extend w wide b start span group first widths (λ s fits from any. follows-fold step extend w wide b start span group first (low wide) s follows widths fits from any)

-- And so do those of which each low bit follows it.
pub folds-bits : (step : (a e : ℕ) → ℕ) (extend : ℕ → ℕ) (w wide b start : ℕ) (span : Span) (group first : Counting) → Widths w wide b
    → ((j : ℕ) → j < wide → Follows step extend w wide start group first (λ n. bit_at n j))
    → Folds step extend w wide b span (counts_from w wide b start span group first ++ spread_num wide scalar_row)
folds-bits step extend w wide b start span group first widths follows =
    folds-by step extend w wide b start span group first widths (λ s fits from any.
    let x : ℕ = (replay (counts_from w wide b start span group first) s).num in
    let y : ℕ = fold_of step extend w wide b span s in
    sym (number-bits wide x)
    ∙ number-same wide (bit_of x) (bit_of y) (λ j l. ap (λ (z : ℕ). eqb z 1) (follows-fold step extend w wide b start span group first (λ n. bit_at n j) s (follows j l) widths fits from any))
    ∙ number-bits wide y)
