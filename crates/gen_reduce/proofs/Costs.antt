-- What the lists of the kinds cost.
use Rattle.std.proofs.Common.{◌≡◌, ℕ, ◌+◌, ◌*◌, ◌^◌, ◌%◌, ◌<◌, ◌≤◌, Bool, true, false, cond, List, [], ◌∷◌, ◌++◌, refl, arith}
use Rattle.steer_net.specs.Network.{is_width}
use Rattle.steer_net.specs.declared.reach.Reach.{Reach}
use Rattle.micro_ir.specs.declared.op.MicroOp.{MicroOp}
use Rattle.micro_ir.specs.declared.op.MicroOp.TheVariants.{SetNum}
use Rattle.micro_ir.specs.declared.place.Place.{Place}
use Rattle.micro_ir.specs.Measures.{Measured, counts}
use Rattle.micro_ir.specs.Pieces.{commit}
use Rattle.micro_ir.specs.Replay.{AllInRange, tally}
use Rattle.micro_ir.specs.WorkRows.{result_row}
use Rattle.micro_ir.proofs.PieceLists.{all-subs}
use Rattle.micro_ir.proofs.StepLists.{tally-micros, length-micros, AllInRange-micros}
use Rattle.row_counts.specs.declared.span.Span.{Span}
use Rattle.row_counts.specs.Costs.{Spends}
use Rattle.row_counts.specs.Lists.{count_rows, count_first, first_element}
use Rattle.row_counts.specs.Spans.{SpanFits}
use Rattle.row_counts.proofs.Widths.{width-is, width-twice, width-most}
use Rattle.row_counts.proofs.Costs.{spends-append, spends-as, spends-rows, spends-first, spends-element}
use Rattle.gen_reduce.specs.declared.kinds.Reduction.{Reduction}
use Rattle.gen_reduce.specs.Kinds.{counting_of, first_counting_of, is_wide, width_of, start_of}
use Rattle.gen_reduce.specs.Laws.{SpendsReduction}
use Rattle.gen_reduce.specs.Masks.{every, cpop_ops, first_ops, prefix_ops}

pub width-of : (kind : Reduction) (w l : ℕ) → w ≡ 2 ^ l → 32 % w ≡ 0 → 8 ≤ w → (is_wide kind ≡ true → w ≤ 16) → is_width (width_of kind w) ≡ true
width-of kind w l is divides least few = chosen (is_wide kind) few
  where
    chosen : (b : Bool) → (b ≡ true → w ≤ 16) → is_width (cond b (2 * w) w) ≡ true
    chosen true few = width-twice w l is divides least (few refl)
    chosen false few = width-is w l is divides least

pub width-few : (kind : Reduction) (w : ℕ) → 32 % w ≡ 0 → (is_wide kind ≡ true → w ≤ 16) → (w ≤ 32) × (width_of kind w ≤ 32)
width-few kind w divides few = let small : w ≤ 32 = width-most w divides in (small, chosen (is_wide kind) small few)
  where
    chosen : (b : Bool) → w ≤ 32 → (b ≡ true → w ≤ 16) → cond b (2 * w) w ≤ 32
    chosen true small few = let l : w ≤ 16 = few refl in omega arith
    chosen false small few = small

-- a reduction
pub reduction-spends : (kind : Reduction) (w : ℕ) (at : Place) (span : Span) → is_width w ≡ true → w ≤ 32 → is_width (width_of kind w) ≡ true → width_of kind w ≤ 32 → at.to < 32 → SpendsReduction kind w at span
unfolding tally AllInRange
reduction-spends kind w at span width few wide most register =
    let wide_w = width_of kind w in
    let fits : ℕ → Type 0 = λ columns. SpanFits w columns span in
    let start : List MicroOp = SetNum (start_of kind w) ∷ [] in
    let group : List MicroOp = count_rows w span (counting_of kind) span.regs in
    let first : List MicroOp = count_first wide_w at.b span (first_counting_of kind) in
    let one : Spends (counts 0 0 0) 1 fits start = record { cost = refl; count = refl; range = λ columns f. (tt, tt) } in
    let two : Spends (counts (span.regs * w) 0 0) (span.regs * (2 * w + 1)) fits group = spends-rows w span (counting_of kind) span.regs width few in
    let three : Spends (counts wide_w 0 0) (2 * wide_w + 1) fits first = spends-first wide_w at.b span (first_counting_of kind) wide most in
    let last : Spends (counts 4 4 0) 9 fits (first_element wide_w span at.to) = spends-element wide_w span at.to wide register in
    spends-as (spends-append (start ++ (group ++ first)) (first_element wide_w span at.to) (spends-append start (group ++ first) one (spends-append group first two three)) last)
    (omega arith) (omega arith) (omega arith) (omega arith)

-- ---- the kinds on masks

pub every-is : every ≡ 4294967295
every-is = all-subs 1 (omega arith)

pub cpop-measured : (row : ℕ) → Measured (counts 1 0 0) 2 (cpop_ops row)
unfolding tally AllInRange
cpop-measured row = record { cost = refl; count = refl; range = λ columns. (tt, (omega arith, tt)) }

pub first-measured : (row : ℕ) → Measured (counts 1 0 0) 2 (first_ops row)
unfolding tally AllInRange
first-measured row = record { cost = refl; count = refl; range = λ columns. (tt, (tt, tt)) }

pub prefix-measured : (row : ℕ) (how : Reach) (to : ℕ) → to < 32 → Measured (counts 3 2 0) 7 (prefix_ops row how to)
unfolding tally AllInRange
prefix-measured row how to register =
    let steps = commit 1 result_row to in
    record {
      cost = rw (tally-micros 1 steps) refl;
      count = rw (length-micros 1 steps) refl;
      range = λ columns. (tt, (tt, (omega arith, AllInRange-micros columns 1 steps (omega arith, omega arith, (omega arith, omega arith, tt)))));
    }
