-- The list that adds a bit to each element of a row: what it makes of the rows, what it costs, and how it is written.
use Rattle.std.proofs.Common.{◌≡◌, ◌≢◌, ℕ, ◌+◌, ◌-◌, ◌*◌, ◌/◌, ◌%◌, ◌^◌, ◌<◌, ◌≤◌, Bool, true, false, cond, eqb, ltb, not, ◌||◌, List, [], ◌∷◌, ◌++◌, zero, suc, length, map, refl, sym, ◌∙◌, ap, arith, inl, inr, ⊎_elim}
use Rattle.std.specs.Int.{from_bool}
use Rattle.std.proofs.lemmas.Bool.{ne_eqb, eq-eqb, and_parts, lt-ltb, le-ltb}
use Rattle.std.proofs.lemmas.Nat.{mod-mul-add}
use Rattle.std.proofs.Math.Nat.{pow-suc, mod-eq_of_lt, div-one, mod-one}
use Rattle.bit_laws.specs.Numbers.{number, low}
use Rattle.bit_laws.proofs.Numbers.{number-lt, number-same}
use Rattle.cam_chain.specs.KeyPairs.{keys_of, is_new_row}
use Rattle.micro_ir.specs.declared.op.MicroOp.{MicroOp}
use Rattle.micro_ir.specs.Effects.{Costs}
use Rattle.micro_ir.specs.Steps.{Step, fires, step_on, steps_on, AllFit, micro, micros, element}
use Rattle.micro_ir.specs.WorkRows.{carry_row, result_row}
use Rattle.micro_ir.specs.Pieces.{above, clear}
use Rattle.micro_ir.specs.Increments.{ripple, digit, half_digits, half_carries, half_sums, increment, Increments}
use Rattle.cam_chain.specs.KeyPairs.{are_keys}
use Rattle.micro_ir.specs.Replay.{tally}
use Rattle.micro_ir.specs.Measures.{counts}
use Rattle.micro_ir.specs.Subs.{subs_of, between}
use Rattle.micro_ir.specs.Tables.{moved_subs, table_list, rows_list, LeavesNone}
use Rattle.micro_ir.specs.Increments.{lowest_subs}
use Rattle.micro_ir.proofs.Effects.{counts-same}
use Rattle.micro_ir.proofs.PieceLists.{above-rows}
use Rattle.micro_ir.proofs.StepLists.{RowsFit, RowsFit-append, step_counts, steps_counts, steps_counts-append, tally-micros, step_length, steps_length, steps_length-append}
use Rattle.micro_ir.proofs.Subs.{below-lt}
use Rattle.micro_ir.proofs.TableLists.{rows-apart, rows-length}
use Rattle.micro_ir.proofs.Folds.{level-whole}
use Rattle.micro_ir.proofs.Keeping.{micros-keep}
use Rattle.micro_ir.proofs.Lists.{replay-num}
use Rattle.micro_ir.proofs.Lift.{micros-element, replay-columns}
use Rattle.micro_ir.proofs.OneElement.{hit, fires-hit, step-row, clear-here, clear-fits, above-else, above-here, above-fits}
use Rattle.micro_ir.proofs.Ripples.{carries_in, Without, rippled, ripple-fits}

-- ---- the sum

half_adder : (x c : Bool) (p : ℕ) → cond (hit half_digits (x ∷ c ∷ [])) p 0 + cond (hit half_carries (x ∷ c ∷ [])) (p * 2) 0 ≡ cond x p 0 + cond c p 0
half_adder true true p = omega arith
half_adder true false p = omega arith
half_adder false true p = omega arith
half_adder false false p = omega arith

abbrev carry_to : (first : Bool) (x : ℕ → Bool) → ℕ → Bool
carry_to first x zero = first
carry_to first x (suc i) = hit half_carries (x i ∷ carry_to first x i ∷ [])

abbrev sum_bits : (first : Bool) (x : ℕ → Bool) → ℕ → Bool
sum_bits first x i = hit half_digits (x i ∷ carry_to first x i ∷ [])

adds : (n : ℕ) (x : ℕ → Bool) (first : Bool) → number n (sum_bits first x) + cond (carry_to first x n) (2 ^ n) 0 ≡ number n x + cond first 1 0
adds zero x first = refl
adds (suc n) x first = rw (pow-suc 2 n) (omega (arith, adds n x first, half_adder (x n) (carry_to first x n) (2 ^ n)))

-- a number of w bits, beside the bit above them
low-top : (w d s : ℕ) (b : Bool) → d < 2 ^ w → d + cond b (2 ^ w) 0 ≡ s → d ≡ low w s
low-top w d s true h e = let q : s ≡ 1 * 2 ^ w + d = omega arith in rw q (sym (mod-mul-add 1 (2 ^ w) d h))
low-top w d s false h e = let q : s ≡ 0 * 2 ^ w + d = omega arith in rw q (sym (mod-mul-add 0 (2 ^ w) d h))

from-cond : (b : Bool) → cond b 1 0 ≡ from_bool b
from-cond true = refl
from-cond false = refl

or_no : (b : Bool) → b || false ≡ b
or_no true = refl
or_no false = refl

-- the rows of a table are not the row that it writes
inputs-same : (c : ℕ) (inputs : List ℕ) (f g : ℕ → Bool) → Without c inputs → ((r : ℕ) → r ≢ c → f r ≡ g r) → map f inputs ≡ map g inputs
inputs-same c [] f g apart same = refl
inputs-same c (r ∷ rs) f g apart same = rw (same r apart.0, inputs-same c rs f g apart.1 same) refl

carry-same : (x : ℕ) (first : Bool) (e3 e : ℕ → ℕ → Bool) → x ≢ carry_row → ((i : ℕ) → e3 x i ≡ e x i) → (i : ℕ) → carries_in (x ∷ carry_row ∷ []) half_carries carry_row first e3 i ≡ carry_to first (e x) i
carry-same x first e3 e xc same zero = refl
carry-same x first e3 e xc same (suc i) = rw (ne_eqb x carry_row xc, same i, carry-same x first e3 e xc same i) refl

-- ---- one element

-- What the list makes of an element.
pub record Incremented (w x : ℕ) (inputs on : List ℕ) (e now : ℕ → ℕ → Bool) : Type 0 where
  pub sum : number w (now result_row) ≡ low w (number w (e x) + from_bool (fires inputs on (λ r. e r 0)))
  pub rest : (r i : ℕ) → r ≢ carry_row → r ≢ result_row → now r i ≡ e r i

pub incremented : (w x : ℕ) (inputs on : List ℕ) (e : ℕ → ℕ → Bool) → 0 < w → Without carry_row inputs → x ≢ carry_row → x ≢ result_row
    → Incremented w x inputs on e (steps_on (increment w x inputs on) e)
unfolding steps_on increment
incremented w x inputs on e pos apart xc xd =
    let rows : List ℕ = x ∷ carry_row ∷ [] in
    let one = above inputs on carry_row 0 0 in
    let e1 = step_on (clear w carry_row) e in
    let e2 = step_on one e1 in
    let e3 = step_on (clear w result_row) e2 in
    let first = hit on (map (λ r. e r 0) inputs) in
    let first_is : e3 carry_row 0 ≡ first =
    step-row (clear w result_row) e2 carry_row 0 (omega arith) ∙ above-here inputs on carry_row 0 0 e1
    ∙ rw (clear-here w carry_row e 0 pos, fires-hit inputs on (λ r. e1 r 0)) (or_no (hit on (map (λ r. e1 r 0) inputs))
    ∙ ap (hit on) (inputs-same carry_row inputs (λ r. e1 r 0) (λ r. e r 0) apart (λ r p. step-row (clear w carry_row) e r 0 p))) in
    let ahead : (i : ℕ) → 0 < i → i < w → e3 carry_row i ≡ false =
    λ i l u. step-row (clear w result_row) e2 carry_row i (omega arith) ∙ above-else inputs on carry_row 0 0 e1 carry_row i (omega arith) ∙ clear-here w carry_row e i u in
    let p = rippled w rows half_digits half_carries carry_row result_row first e3 w (xd, ((λ q. absurd (omega arith)), tt)) (omega arith) (omega arith)
    (λ i u. clear-here w result_row e2 i u) first_is ahead in
    let same : (r i : ℕ) → r ≢ carry_row → r ≢ result_row → e3 r i ≡ e r i =
    λ r i c d. step-row (clear w result_row) e2 r i d ∙ step-row one e1 r i c ∙ step-row (clear w carry_row) e r i c in
    let now = steps_on (ripple w rows half_digits half_carries carry_row result_row w) e3 in
    let digits : number w (now result_row) ≡ number w (sum_bits first (e x)) =
    number-same w (now result_row) (sum_bits first (e x))
    (λ i l. p.done i l ∙ rw (ne_eqb x carry_row xc, same x i xc xd, carry-same x first e3 e xc (λ i. same x i xc xd) i) refl) in
    let total = adds w (e x) first in
    record {
      sum = rw (fires-hit inputs on (λ r. e r 0)) (digits ∙ low-top w (number w (sum_bits first (e x))) (number w (e x) + from_bool first) (carry_to first (e x) w) (number-lt w (sum_bits first (e x))) (total ∙ rw (from-cond first) refl));
      rest = λ r i c d. p.rest r i c d ∙ same r i c d;
    }

pub increment-fits : (w x : ℕ) (inputs on : List ℕ) → 0 < w → AllFit w (increment w x inputs on)
unfolding increment
increment-fits w x inputs on pos = (
  clear-fits w carry_row,
  (
    above-fits w inputs on carry_row 0 0 (omega arith) (inr (refl, refl)),
    (
      clear-fits w result_row,
      ripple-fits w (x ∷ carry_row ∷ []) half_digits half_carries carry_row result_row w (level-whole (x ∷ carry_row ∷ []) half_carries refl) (omega arith),
    ),
  ),
)

-- ---- all elements

pub increments : (w x : ℕ) (inputs on : List ℕ) → 0 < w → Without carry_row inputs → x ≢ carry_row → x ≢ result_row
    → Increments w x inputs on (micros w (increment w x inputs on))
increments w x inputs on pos apart xc xd =
    let steps = increment w x inputs on in
    let fits = increment-fits w x inputs on pos in
    record {
      sum = λ s k col q c. rw (micros-element w k col steps s fits q c) ((incremented w x inputs on (element w k col s) pos apart xc xd).sum);
      kept = λ s k col r j q c p d. ap (λ (f : ℕ → ℕ → Bool). f r j) (micros-element w k col steps s fits q c) ∙ (incremented w x inputs on (element w k col s) pos apart xc xd).rest r j p d;
      num = λ s. replay-num (micros w steps) s (micros-keep w steps);
      columns = replay-columns (micros w steps);
    }

-- ---- what it costs

-- the sums at the lowest n bits, below the highest
half-counts : (w x n : ℕ) → n < w → steps_counts (half_sums w x n) ≡ counts (3 * n) (2 * n) n
unfolding ripple
half-counts w x zero h = refl
half-counts w x (suc n) h =
    rw (steps_counts-append (half_sums w x n) (digit w (x ∷ carry_row ∷ []) half_digits half_carries carry_row result_row n), half-counts w x n (omega arith), lt-ltb (suc n) w h)
    (counts-same _ _ _ _ _ _ (omega arith) (omega arith) (omega arith))

-- all of them
whole-counts : (x n : ℕ) → steps_counts (half_sums (suc n) x (suc n)) ≡ counts (3 * n + 2) (2 * n + 1) n
unfolding ripple
whole-counts x n =
    let past : suc n ≤ suc n = omega arith in
    rw (steps_counts-append (half_sums (suc n) x n) (digit (suc n) (x ∷ carry_row ∷ []) half_digits half_carries carry_row result_row n), half-counts (suc n) x n (omega arith), le-ltb (suc n) (suc n) past)
    (counts-same _ _ _ _ _ _ (omega arith) (omega arith) (omega arith))

start-counts : (inputs on : List ℕ) → 0 < length on → step_counts (above inputs on carry_row 0 0) ≡ counts (length on) 1 0
start-counts inputs [] some = absurd (omega arith)
start-counts inputs (t ∷ ts) some = refl

counts-of : (x n : ℕ) (inputs on : List ℕ) → 0 < length on → steps_counts (increment (suc n) x inputs on) ≡ counts (3 * n + 4 + length on) (2 * n + 4) n
unfolding increment
counts-of x n inputs on some =
    rw (start-counts inputs on some, whole-counts x n) (counts-same _ _ _ _ _ _ (omega arith) (omega arith) (omega arith))

pub increment-counts : (w x : ℕ) (inputs on : List ℕ) → 0 < w → 0 < length on → steps_counts (increment w x inputs on) ≡ counts (3 * w + 1 + length on) (2 * w + 2) (w - 1)
increment-counts zero x inputs on pos some = absurd (omega arith)
increment-counts (suc n) x inputs on pos some = counts-of x n inputs on some ∙ counts-same _ _ _ _ _ _ (omega arith) (omega arith) (omega arith)

pub increment-cost : (w x : ℕ) (inputs on : List ℕ) → 0 < w → 0 < length on
    → Costs (3 * w + 1 + length on) (2 * w + 2) (w - 1) (micros w (increment w x inputs on))
increment-cost w x inputs on pos some = tally-micros w (increment w x inputs on) ∙ increment-counts w x inputs on pos some

-- ---- how long it is, and that a chain can run it

half-length : (w x n : ℕ) → n < w → steps_length (half_sums w x n) ≡ 6 * n
unfolding ripple
half-length w x zero h = refl
half-length w x (suc n) h =
    rw (steps_length-append (half_sums w x n) (digit w (x ∷ carry_row ∷ []) half_digits half_carries carry_row result_row n), half-length w x n (omega arith), lt-ltb (suc n) w h) (omega arith)

whole-length : (x n : ℕ) → steps_length (half_sums (suc n) x (suc n)) ≡ 6 * n + 3
unfolding ripple
whole-length x n =
    let past : suc n ≤ suc n = omega arith in
    rw (steps_length-append (half_sums (suc n) x n) (digit (suc n) (x ∷ carry_row ∷ []) half_digits half_carries carry_row result_row n), half-length (suc n) x n (omega arith), le-ltb (suc n) (suc n) past) (omega arith)

first-length : (inputs on : List ℕ) → 0 < length on → step_length (above inputs on carry_row 0 0) ≡ length on + 1
first-length inputs [] some = absurd (omega arith)
first-length inputs (t ∷ ts) some = refl

pub increment-length : (w x : ℕ) (inputs on : List ℕ) → 0 < w → 0 < length on → steps_length (increment w x inputs on) ≡ 6 * w + 2 + length on
unfolding increment
increment-length zero x inputs on pos some = absurd (omega arith)
increment-length (suc n) x inputs on pos some = rw (first-length inputs on some, whole-length x n) (omega arith)

ripple-rows : (w x n : ℕ) → RowsFit (half_sums w x n)
unfolding ripple
ripple-rows w x zero = tt
ripple-rows w x (suc n) = RowsFit-append (half_sums w x n) (digit w (x ∷ carry_row ∷ []) half_digits half_carries carry_row result_row n) (ripple-rows w x n) (omega arith, omega arith, carries-rows (ltb (suc n) w))
  where
    carries-rows : (b : Bool) → RowsFit (cond b (above (x ∷ carry_row ∷ []) half_carries carry_row n 1 ∷ []) [])
    carries-rows true = (omega arith, omega arith, tt)
    carries-rows false = tt

pub increment-rows : (w x : ℕ) (inputs on : List ℕ) → RowsFit (increment w x inputs on)
unfolding increment
increment-rows w x inputs on = (omega arith, omega arith, (omega arith, omega arith, (omega arith, omega arith, ripple-rows w x w)))

-- ---- how it is written

pub increment-list : (w x : ℕ) (inputs on : List ℕ)
    → micros w (increment w x inputs on)
    ≡ micro w (clear w carry_row) ++ (micro w (above inputs on carry_row 0 0) ++ (micro w (clear w result_row) ++ micros w (half_sums w x w)))
unfolding increment micros
increment-list w x inputs on = refl

-- a step that does not move its tags, whichever way it names
still-subs : (subs : ℕ) (up : Bool) → subs < 2 ^ 32 → moved_subs subs up 0 ≡ subs
still-subs subs true small = let e : subs * 2 ^ 0 ≡ subs = omega arith in rw e (mod-eq_of_lt small)
still-subs subs false small = div-one subs

still-rows : (subs : ℕ) (inputs on : List ℕ) (out : ℕ) (up : Bool) → subs < 2 ^ 32 → rows_list subs inputs on out up 0 ≡ rows_list subs inputs on out true 0
unfolding rows_list
still-rows subs inputs [] out up small = refl
still-rows subs inputs (t ∷ ts) out up small = rw (still-subs subs up small, still-subs subs true small) refl

lowest-small : (w : ℕ) → lowest_subs w < 2 ^ 32
unfolding subs_of
lowest-small w = below-lt w (between 0 1) 32

-- the list of the step that makes the bit, by the places of an element
pub start-list : (w subs : ℕ) (inputs on : List ℕ) (out : ℕ) (up : Bool) → 0 < w → subs ≡ lowest_subs w → are_keys (keys_of inputs 0) ≡ true
    → table_list subs inputs on out up 0 ≡ micro w (above inputs on out 0 0)
start-list w subs inputs on out up pos lowest keys =
    let small : subs < 2 ^ 32 = rw lowest (lowest-small w) in
    sym (rows-apart subs inputs on out up 0 keys) ∙ still-rows subs inputs on out up small ∙ above-rows w inputs on out 0 0 subs pos pos lowest

-- and its length
pub start-length : (subs : ℕ) (inputs on : List ℕ) (out : ℕ) (up : Bool) → are_keys (keys_of inputs 0) ≡ true → 0 < length on → length (table_list subs inputs on out up 0) ≡ length on + 1
start-length subs inputs on out up keys some = rw (← rows-apart subs inputs on out up 0 keys) (rows-length subs inputs on out up 0 some ∙ omega arith)

-- its tags stay in the chain
pub stays-still : (w subs : ℕ) (up : Bool) → subs ≡ lowest_subs w → LeavesNone subs up 0
stays-still w subs true lowest = let e : subs * 2 ^ 0 ≡ subs = omega arith in rw e (rw lowest (lowest-small w))
stays-still w subs false lowest = mod-one subs

-- the row that the step writes is none of its inputs
pub new-without : (c : ℕ) (inputs : List ℕ) (t : ℕ) → is_new_row c (keys_of inputs t) ≡ true → Without c inputs
new-without c [] t new = tt
new-without c (r ∷ rs) t new =
    let p = and_parts (not (eqb c r)) (is_new_row c (keys_of rs (t / 2))) new in
    (λ q. not-same (eqb c r) (eq-eqb c r (sym q)) p.0, new-without c rs (t / 2) p.1)
  where
    not-same : (b : Bool) → b ≡ true → not b ≡ true → ⊥
    not-same true p q = cc
    not-same false p q = cc
