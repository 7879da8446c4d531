-- What lists cost that go from bit to bit.
use Rattle.std.proofs.Common.{◌≡◌, ℕ, ◌+◌, ◌-◌, ◌*◌, ◌<◌, ◌≤◌, true, false, cond, ltb, List, [], ◌∷◌, ◌++◌, zero, suc, length, refl, ◌∙◌, ap, arith}
use Rattle.std.proofs.lemmas.Bool.{lt-ltb, le-ltb}
use Rattle.cam_chain.specs.declared.counts.Counts.{Counts}
use Rattle.micro_ir.specs.Replay.{counts_and}
use Rattle.micro_ir.specs.Steps.{Step, micros}
use Rattle.micro_ir.proofs.StepLists.{RowsFit, pass_length, counts_from, length_from, step_counts, steps_counts, steps_counts-append, tally-micros, steps_length, length-micros, AllInRange-micros}
use Rattle.micro_ir.proofs.Effects.{downs-counts}
use Rattle.micro_ir.specs.WorkRows.{result_row}
use Rattle.micro_ir.specs.Pieces.{everywhere, clear, commit}
use Rattle.micro_ir.specs.WorkRows.{carry_row, truth_row}
use Rattle.micro_ir.specs.Pieces.{above, downs}
use Rattle.gen_arith.specs.Recipes.{digit, ripple, SumTables, sum_steps, add, sub, adc, sbc, TruthTables, truth_steps, madc, madc_in, msbc, msbc_in, eq, ne, ltu, lt, leu, le, gtu, gt, first_on, second_on, choice_steps}
use Rattle.micro_ir.specs.Measures.{counts, Measured}
use Rattle.gen_arith.specs.Laws.{operations_in, SumMeasured, TruthMeasured, ChoiceMeasured}

pub counts-same : (a b c x y z : ℕ) → a ≡ x → b ≡ y → c ≡ z → counts a b c ≡ counts x y z
counts-same a b c x y z p q r = λ i. counts (p i) (q i) (r i)

pub counts-add : (x y : Counts) (a b c d e f : ℕ) → x ≡ counts a b c → y ≡ counts d e f → counts_and x y ≡ counts (a + d) (b + e) (c + f)
counts-add x y a b c d e f p q = rw (p, q) refl

-- ---- steps that move by at most one bit

-- the output of each step lies in a row of a subarray, and moves by at most one bit
abbrev pub Near : List Step → Type 0
Near [] = Unit {0}
Near (step ∷ steps) = (step.out < 64) × (step.times ≤ 1) × Near steps

pub Near-append : (xs ys : List Step) → Near xs → Near ys → Near (xs ++ ys)
Near-append [] ys p q = q
Near-append (x ∷ xs) ys p q = (p.0, p.1, Near-append xs ys p.2 q)

near-rows : (steps : List Step) → Near steps → RowsFit steps
near-rows [] h = tt
near-rows (step ∷ steps) h = (h.0, omega (arith, h.1), near-rows steps h.2)

pass-near : (n : ℕ) → n ≤ 1 → pass_length n ≡ n
pass-near zero h = refl
pass-near (suc zero) h = refl
pass-near (suc (suc n)) h = absurd (omega arith)

near-step : (step : Step) (on : List ℕ) → step.times ≤ 1 → length_from step on ≡ (counts_from step on).searches + (counts_from step on).updates + (counts_from step on).passes
near-step step [] h = refl
near-step step (t ∷ ts) h = omega (arith, pass-near step.times h)

near-length : (steps : List Step) → Near steps → steps_length steps ≡ (steps_counts steps).searches + (steps_counts steps).updates + (steps_counts steps).passes
near-length [] h = refl
near-length (step ∷ steps) h = omega (arith, near-step step step.on h.1, near-length steps h.2)

-- a list of such steps, by their counts
pub measured : (w : ℕ) (steps : List Step) (all : Counts) → Near steps → steps_counts steps ≡ all → Measured all (operations_in all) (micros w steps)
measured w steps all near e =
    record {
      cost = tally-micros w steps ∙ e;
      count = length-micros w steps ∙ near-length steps near ∙ ap (λ (c : Counts). c.searches + c.updates + c.passes) e;
      range = λ columns. AllInRange-micros columns w steps (near-rows steps near);
    }

-- ---- the pieces

-- a step that has values makes an update
abbrev pub some : List ℕ → ℕ
some [] = 0
some (t ∷ ts) = 1

pub here-counts : (inputs on : List ℕ) (out j : ℕ) → step_counts (above inputs on out j 0) ≡ counts (length on) (some on) 0
here-counts inputs [] out j = refl
here-counts inputs (t ∷ ts) out j = refl

pub next-counts : (inputs on : List ℕ) (out j : ℕ) → step_counts (above inputs on out j 1) ≡ counts (length on) (some on) (some on)
next-counts inputs [] out j = refl
next-counts inputs (t ∷ ts) out j = refl

digit-counts : (w : ℕ) (inputs digits carries : List ℕ) (c d n : ℕ) → suc n < w
    → steps_counts (digit w inputs digits carries c d n) ≡ counts (length digits + length carries) (some digits + some carries) (some carries)
digit-counts w inputs digits carries c d n l =
    rw (lt-ltb (suc n) w l) (rw (here-counts inputs digits d n, next-counts inputs carries c n) (counts-same _ _ _ _ _ _ (omega arith) (omega arith) (omega arith)))

top-counts : (w : ℕ) (inputs digits carries : List ℕ) (c d n : ℕ) → w ≤ suc n → steps_counts (digit w inputs digits carries c d n) ≡ counts (length digits) (some digits) 0
top-counts w inputs digits carries c d n l =
    rw (le-ltb (suc n) w l) (rw (here-counts inputs digits d n) (counts-same _ _ _ _ _ _ (omega arith) (omega arith) (omega arith)))

-- the lowest n bits, below the highest
pub ripple-counts : (w : ℕ) (inputs digits carries : List ℕ) (c d n : ℕ) → n < w
    → steps_counts (ripple w inputs digits carries c d n) ≡ counts (n * (length digits + length carries)) (n * (some digits + some carries)) (n * some carries)
unfolding ripple
ripple-counts w inputs digits carries c d zero h = counts-same 0 0 0 _ _ _ (omega arith) (omega arith) (omega arith)
ripple-counts w inputs digits carries c d (suc n) h =
    steps_counts-append (ripple w inputs digits carries c d n) (digit w inputs digits carries c d n)
    ∙ counts-add _ _ _ _ _ _ _ _ (ripple-counts w inputs digits carries c d n (omega arith)) (digit-counts w inputs digits carries c d n h)
    ∙ counts-same _ _ _ _ _ _ (omega arith) (omega arith) (omega arith)

-- all of them
pub whole-counts : (inputs digits carries : List ℕ) (c d n : ℕ)
    → steps_counts (ripple (suc n) inputs digits carries c d (suc n)) ≡ counts (n * (length digits + length carries) + length digits) (n * (some digits + some carries) + some digits) (n * some carries)
unfolding ripple
whole-counts inputs digits carries c d n =
    steps_counts-append (ripple (suc n) inputs digits carries c d n) (digit (suc n) inputs digits carries c d n)
    ∙ counts-add _ _ _ _ _ _ _ _ (ripple-counts (suc n) inputs digits carries c d n (omega arith)) (top-counts (suc n) inputs digits carries c d n (omega arith))
    ∙ counts-same _ _ _ _ _ _ (omega arith) (omega arith) (omega arith)

pub ripple-near : (w : ℕ) (inputs digits carries : List ℕ) (c d n : ℕ) → c < 64 → d < 64 → Near (ripple w inputs digits carries c d n)
unfolding ripple
ripple-near w inputs digits carries c d zero p q = tt
ripple-near w inputs digits carries c d (suc n) p q =
    Near-append (ripple w inputs digits carries c d n) (digit w inputs digits carries c d n) (ripple-near w inputs digits carries c d n p q) (
      q,
      omega arith,
      elim (ltb (suc n) w) as (λ x. Near (cond x (above inputs carries c n 1 ∷ []) [])) [
        | true ↦ (p, omega arith, tt)
        | false ↦ tt
      ],
    )

-- ---- sums

sum-near : (k : SumTables) (w a b to : ℕ) → to < 32 → Near (sum_steps k w a b to)
unfolding sum_steps
sum-near k w a b to register = (
  omega arith,
  omega arith,
  (
    omega arith,
    omega arith,
    (
      omega arith,
      omega arith,
      Near-append (ripple w (carry_row ∷ a ∷ b ∷ []) k.digits k.carries carry_row result_row w) (commit w result_row to)
          (ripple-near w (carry_row ∷ a ∷ b ∷ []) k.digits k.carries carry_row result_row w (omega arith) (omega arith))
          (omega arith, omega arith, (omega arith, omega arith, tt)),
    ),
  ),
)

sum-counts : (k : SumTables) (n a b to : ℕ) → steps_counts (sum_steps k (suc n) a b to)
    ≡ counts (4 + length k.from_on + n * (length k.digits + length k.carries) + length k.digits) (4 + some k.from_on + n * (some k.digits + some k.carries) + some k.digits) (n * some k.carries)
unfolding sum_steps
sum-counts k n a b to =
    let ds = ripple (suc n) (carry_row ∷ a ∷ b ∷ []) k.digits k.carries carry_row result_row (suc n) in
    rw (
      here-counts k.from k.from_on carry_row 0,
      steps_counts-append ds (commit (suc n) result_row to),
      whole-counts (carry_row ∷ a ∷ b ∷ []) k.digits k.carries carry_row result_row n,
    )
    (counts-same _ _ _ _ _ _ (omega arith) (omega arith) (omega arith))

-- a sum by its counts, from those of all sums
sum-measured : (k : SumTables) (all : ℕ → Counts) → ((n : ℕ) →
    counts (4 + length k.from_on + n * (length k.digits + length k.carries) + length k.digits) (4 + some k.from_on + n * (some k.digits + some k.carries) + some k.digits) (n * some k.carries) ≡ all (suc n))
    → SumMeasured k all
sum-measured k all e zero a b to pos register = absurd (omega arith)
sum-measured k all e (suc n) a b to pos register = measured (suc n) (sum_steps k (suc n) a b to) (all (suc n)) (sum-near k (suc n) a b to register) (sum-counts k n a b to ∙ e n)

pub add-measured : SumMeasured add (λ w. counts (8 * w) (2 * w + 3) (w - 1))
add-measured = sum-measured add _ (λ n. counts-same _ _ _ _ _ _ (omega arith) (omega arith) (omega arith))

pub sub-measured : SumMeasured sub (λ w. counts (8 * w + 1) (2 * w + 4) (w - 1))
sub-measured = sum-measured sub _ (λ n. counts-same _ _ _ _ _ _ (omega arith) (omega arith) (omega arith))

pub adc-measured : SumMeasured adc (λ w. counts (8 * w + 1) (2 * w + 4) (w - 1))
adc-measured = sum-measured adc _ (λ n. counts-same _ _ _ _ _ _ (omega arith) (omega arith) (omega arith))

pub sbc-measured : SumMeasured sbc (λ w. counts (8 * w + 1) (2 * w + 4) (w - 1))
sbc-measured = sum-measured sbc _ (λ n. counts-same _ _ _ _ _ _ (omega arith) (omega arith) (omega arith))

-- ---- truths

pub truth-near : (k : TruthTables) (w a b : ℕ) → Near (truth_steps k w a b)
unfolding truth_steps
truth-near k w a b =
    let ds = ripple w (carry_row ∷ a ∷ b ∷ []) [] k.carries carry_row truth_row (w - 1) in
    let final = above (carry_row ∷ a ∷ b ∷ []) k.last truth_row (w - 1) 0 in (
      omega arith,
      omega arith,
      (
        omega arith,
        omega arith,
        (
          omega arith,
          omega arith,
          Near-append ds (final ∷ []) (ripple-near w (carry_row ∷ a ∷ b ∷ []) [] k.carries carry_row truth_row (w - 1) (omega arith) (omega arith)) (omega arith, omega arith, tt),
        ),
      ),
    )

pub truth-counts : (k : TruthTables) (n a b : ℕ) → steps_counts (truth_steps k (suc n) a b)
    ≡ counts (2 + length k.from_on + n * length k.carries + length k.last) (2 + some k.from_on + n * some k.carries + some k.last) (n * some k.carries)
unfolding truth_steps
truth-counts k n a b =
    let ds = ripple (suc n) (carry_row ∷ a ∷ b ∷ []) [] k.carries carry_row truth_row n in
    let final = above (carry_row ∷ a ∷ b ∷ []) k.last truth_row n 0 in
    let z : suc n - 1 ≡ n = omega arith in
    rw (
      z,
      here-counts k.from k.from_on carry_row 0,
      steps_counts-append ds (final ∷ []),
      ripple-counts (suc n) (carry_row ∷ a ∷ b ∷ []) [] k.carries carry_row truth_row n (omega arith),
      here-counts (carry_row ∷ a ∷ b ∷ []) k.last truth_row n,
    )
    (counts-same _ _ _ _ _ _ (omega arith) (omega arith) (omega arith))

-- a comparison by its counts, from those of all comparisons
truth-measured : (k : TruthTables) (all : ℕ → Counts) → ((n : ℕ) →
    counts (2 + length k.from_on + n * length k.carries + length k.last) (2 + some k.from_on + n * some k.carries + some k.last) (n * some k.carries) ≡ all (suc n))
    → TruthMeasured k all
truth-measured k all e zero a b pos = absurd (omega arith)
truth-measured k all e (suc n) a b pos = measured (suc n) (truth_steps k (suc n) a b) (all (suc n)) (truth-near k (suc n) a b) (truth-counts k n a b ∙ e n)

pub madc-measured : TruthMeasured madc (λ w. counts (4 * w + 2) (w + 2) (w - 1))
madc-measured = truth-measured madc _ (λ n. counts-same _ _ _ _ _ _ (omega arith) (omega arith) (omega arith))

pub madc_in-measured : TruthMeasured madc_in (λ w. counts (4 * w + 3) (w + 3) (w - 1))
madc_in-measured = truth-measured madc_in _ (λ n. counts-same _ _ _ _ _ _ (omega arith) (omega arith) (omega arith))

pub msbc-measured : TruthMeasured msbc (λ w. counts (4 * w + 2) (w + 2) (w - 1))
msbc-measured = truth-measured msbc _ (λ n. counts-same _ _ _ _ _ _ (omega arith) (omega arith) (omega arith))

pub msbc_in-measured : TruthMeasured msbc_in (λ w. counts (4 * w + 3) (w + 3) (w - 1))
msbc_in-measured = truth-measured msbc_in _ (λ n. counts-same _ _ _ _ _ _ (omega arith) (omega arith) (omega arith))

pub eq-measured : TruthMeasured eq (λ w. counts (6 * w - 2) (w + 2) (w - 1))
eq-measured = truth-measured eq _ (λ n. counts-same _ _ _ _ _ _ (omega arith) (omega arith) (omega arith))

pub ne-measured : TruthMeasured ne (λ w. counts (6 * w + 2) (w + 2) (w - 1))
ne-measured = truth-measured ne _ (λ n. counts-same _ _ _ _ _ _ (omega arith) (omega arith) (omega arith))

pub ltu-measured : TruthMeasured ltu (λ w. counts (4 * w + 2) (w + 2) (w - 1))
ltu-measured = truth-measured ltu _ (λ n. counts-same _ _ _ _ _ _ (omega arith) (omega arith) (omega arith))

pub lt-measured : TruthMeasured lt (λ w. counts (4 * w + 2) (w + 2) (w - 1))
lt-measured = truth-measured lt _ (λ n. counts-same _ _ _ _ _ _ (omega arith) (omega arith) (omega arith))

pub leu-measured : TruthMeasured leu (λ w. counts (4 * w + 2) (w + 2) (w - 1))
leu-measured = truth-measured leu _ (λ n. counts-same _ _ _ _ _ _ (omega arith) (omega arith) (omega arith))

pub le-measured : TruthMeasured le (λ w. counts (4 * w + 2) (w + 2) (w - 1))
le-measured = truth-measured le _ (λ n. counts-same _ _ _ _ _ _ (omega arith) (omega arith) (omega arith))

pub gtu-measured : TruthMeasured gtu (λ w. counts (4 * w + 2) (w + 2) (w - 1))
gtu-measured = truth-measured gtu _ (λ n. counts-same _ _ _ _ _ _ (omega arith) (omega arith) (omega arith))

pub gt-measured : TruthMeasured gt (λ w. counts (4 * w + 2) (w + 2) (w - 1))
gt-measured = truth-measured gt _ (λ n. counts-same _ _ _ _ _ _ (omega arith) (omega arith) (omega arith))

-- ---- one of two

downs-near : (row n : ℕ) → row < 64 → Near (downs row n)
unfolding downs
downs-near row zero h = tt
downs-near row (suc n) h = (h, omega arith, downs-near row n h)

choice-near : (k : TruthTables) (on : List ℕ) (w a b to : ℕ) → to < 32 → Near (choice_steps k on w a b to)
unfolding choice_steps
choice-near k on w a b to register =
    let merge = everywhere w (truth_row ∷ a ∷ b ∷ []) on result_row true in
    let rest : List Step = clear w result_row ∷ merge ∷ commit w result_row to in
    Near-append (truth_steps k w a b) (downs truth_row (w - 1) ++ rest) (truth-near k w a b)
    (Near-append (downs truth_row (w - 1)) rest (downs-near truth_row (w - 1) (omega arith))
    (omega arith, omega arith, (omega arith, omega arith, (omega arith, omega arith, (omega arith, omega arith, tt)))))

everywhere-counts : (w : ℕ) (inputs on : List ℕ) (out : ℕ) → step_counts (everywhere w inputs on out true) ≡ counts (length on) (some on) 0
everywhere-counts w inputs [] out = refl
everywhere-counts w inputs (t ∷ ts) out = refl

choice-counts : (k : TruthTables) (on : List ℕ) (n a b to : ℕ) → steps_counts (choice_steps k on (suc n) a b to)
    ≡ counts (2 + length k.from_on + n * length k.carries + length k.last + n + length on + 3) (2 + some k.from_on + n * some k.carries + some k.last + n + some on + 3) (n * some k.carries + n)
unfolding choice_steps
choice-counts k on n a b to =
    let w = suc n in
    let z : suc n - 1 ≡ n = omega arith in
    let merge = everywhere w (truth_row ∷ a ∷ b ∷ []) on result_row true in
    let rest : List Step = clear w result_row ∷ merge ∷ commit w result_row to in
    rw (
      z,
      steps_counts-append (truth_steps k w a b) (downs truth_row n ++ rest),
      truth-counts k n a b,
      steps_counts-append (downs truth_row n) rest,
      downs-counts truth_row n,
      everywhere-counts w (truth_row ∷ a ∷ b ∷ []) on result_row,
    )
    (counts-same _ _ _ _ _ _ (omega arith) (omega arith) (omega arith))

-- a choice by its counts, from those of all choices
choice-measured : (k : TruthTables) (on : List ℕ) (all : ℕ → Counts) → ((n : ℕ) →
    counts (2 + length k.from_on + n * length k.carries + length k.last + n + length on + 3) (2 + some k.from_on + n * some k.carries + some k.last + n + some on + 3) (n * some k.carries + n) ≡ all (suc n))
    → ChoiceMeasured k on all
choice-measured k on all e zero a b to pos register = absurd (omega arith)
choice-measured k on all e (suc n) a b to pos register = measured (suc n) (choice_steps k on (suc n) a b to) (all (suc n)) (choice-near k on (suc n) a b to register) (choice-counts k on n a b to ∙ e n)

pub minu-measured : ChoiceMeasured ltu first_on (λ w. counts (5 * w + 8) (2 * w + 5) (2 * (w - 1)))
minu-measured = choice-measured ltu first_on _ (λ n. counts-same _ _ _ _ _ _ (omega arith) (omega arith) (omega arith))

pub min-measured : ChoiceMeasured lt first_on (λ w. counts (5 * w + 8) (2 * w + 5) (2 * (w - 1)))
min-measured = choice-measured lt first_on _ (λ n. counts-same _ _ _ _ _ _ (omega arith) (omega arith) (omega arith))

pub maxu-measured : ChoiceMeasured ltu second_on (λ w. counts (5 * w + 8) (2 * w + 5) (2 * (w - 1)))
maxu-measured = choice-measured ltu second_on _ (λ n. counts-same _ _ _ _ _ _ (omega arith) (omega arith) (omega arith))

pub max-measured : ChoiceMeasured lt second_on (λ w. counts (5 * w + 8) (2 * w + 5) (2 * (w - 1)))
max-measured = choice-measured lt second_on _ (λ n. counts-same _ _ _ _ _ _ (omega arith) (omega arith) (omega arith))
