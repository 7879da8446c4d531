-- The lists of sums realise them.
use Rattle.std.proofs.Common.{◌≡◌, ◌≢◌, ℕ, ◌+◌, ◌-◌, ◌^◌, ◌<◌, ◌≤◌, Bool, true, false, cond, not, List, [], ◌∷◌, map, refl, ◌∙◌, ap, arith, inr}
use Rattle.std.specs.Int.{from_bool}
use Rattle.bit_laws.specs.Numbers.{number, low}
use Rattle.bit_laws.proofs.Numbers.{number-lt, number-same}
use Rattle.micro_ir.specs.Steps.{Step, step_on, steps_on, AllFit, micros, element}
use Rattle.micro_ir.proofs.Lift.{micros-element}
use Rattle.micro_ir.proofs.StepLists.{steps_on-append, AllFit-append}
use Rattle.micro_ir.specs.WorkRows.{active_row, mask_row, scalar_row, result_row}
use Rattle.micro_ir.specs.Pieces.{clear, commit}
use Rattle.micro_ir.specs.Kinds.{Writes, Realises}
use Rattle.micro_ir.proofs.Committed.{commit-writes, lifted}
use Rattle.micro_ir.proofs.OneElement.{hit, fires-hit, step-row, clear-here, clear-fits, commit-fits, above-else, above-here, above-fits}
use Rattle.micro_ir.specs.WorkRows.{carry_row}
use Rattle.micro_ir.specs.Pieces.{above}
use Rattle.gen_arith.specs.Recipes.{ripple, SumTables, sum_steps, odd_on, most_on, odd_not_on, most_not_on, add, sub, adc, sbc}
use Rattle.gen_arith.specs.Laws.{Apart, SumNumbers, CarriedNumbers}
use Rattle.gen_arith.proofs.Ripple.{or_no, bits_in, same_inputs, rippled, ripple-fits}
use Rattle.gen_arith.proofs.Rows.{finds, IsLevel, level, carried, carries-carried}
use Rattle.gen_arith.proofs.Numbers.{sum_digits, adder, difference_digits, subtracter, low-top}

-- the carry into the lowest bit
abbrev pub first_of : (from on : List ℕ) (e : ℕ → ℕ → Bool) → Bool
first_of from on e = hit on (bits_in from e 0)

-- the digits of a sum, bit by bit
abbrev pub digits_of : SumTables → (a b : ℕ) → (e : ℕ → ℕ → Bool) → ℕ → Bool
digits_of k a b e i = finds k.digits (carried k.carries (first_of k.from k.from_on e) (e a) (e b) i) (e a i) (e b i)

sum-writes : (k : SumTables) (w a b to : ℕ) (reads : Bool) (value : (ℕ → ℕ) → Bool → ℕ) (e : ℕ → ℕ → Bool) → 0 < w → Apart carry_row result_row (a ∷ b ∷ []) → Apart carry_row result_row k.from → to < 32
    → ((c : Bool) → (reads ≡ true → (j : ℕ) → j < w → e mask_row j ≡ c) → number w (digits_of k a b e) ≡ low w (value (λ r. number w (e r)) c))
    → Writes w to reads value e (steps_on (sum_steps k w a b to) e)
unfolding steps_on sum_steps
sum-writes k w a b to reads value e pos rows from register is =
    let one = above k.from k.from_on carry_row 0 0 in
    let e1 = step_on (clear w carry_row) e in
    let e2 = step_on one e1 in
    let e3 = step_on (clear w result_row) e2 in
    let ds = ripple w (carry_row ∷ a ∷ b ∷ []) k.digits k.carries carry_row result_row w in
    let e4 = steps_on ds e3 in
    let start = first_of k.from k.from_on e in
    let same : (r j : ℕ) → r ≢ carry_row → r ≢ result_row → e3 r j ≡ e r j =
    λ r j p q. step-row (clear w result_row) e2 r j q ∙ step-row one e1 r j p ∙ step-row (clear w carry_row) e r j p in
    let first_is : e3 carry_row 0 ≡ start =
    step-row (clear w result_row) e2 carry_row 0 (omega arith) ∙ above-here k.from k.from_on carry_row 0 0 e1
    ∙ rw (clear-here w carry_row e 0 pos, fires-hit k.from k.from_on (λ r. e1 r 0)) (or_no (hit k.from_on (map (λ r. e1 r 0) k.from))
    ∙ ap (hit k.from_on) (same_inputs carry_row result_row k.from (λ r. e1 r 0) (λ r. e r 0) from (λ r p q. step-row (clear w carry_row) e r 0 p))) in
    let ahead : (i : ℕ) → 0 < i → i < w → e3 carry_row i ≡ false =
    λ i l u. step-row (clear w result_row) e2 carry_row i (omega arith) ∙ above-else k.from k.from_on carry_row 0 0 e1 carry_row i (omega arith) ∙ clear-here w carry_row e i u in
    let p = rippled w (a ∷ b ∷ []) k.digits k.carries carry_row result_row start e3 w rows (omega arith) (omega arith)
    (λ i u. clear-here w result_row e2 i u) first_is ahead in
    let one_operand : (r : ℕ) → r ≢ carry_row → r ≢ result_row → e3 r ≡ e r = λ r p q i j. same r j p q i in
    let sums : number w (e4 result_row) ≡ number w (digits_of k a b e) =
    number-same w (e4 result_row) (digits_of k a b e) (λ i inside.
    p.done i inside
    ∙ ap (λ x. hit k.digits (x ∷ bits_in (a ∷ b ∷ []) e3 i)) (carries-carried k.carries a b start e3 i)
    ∙ rw (one_operand a rows.0 rows.1, one_operand b rows.2.0 rows.2.1) refl) in
    rw (steps_on-append ds (commit w result_row to) e3) (commit-writes w result_row to reads value e e4 (omega arith) register (λ c mask. sums ∙ is c mask)
    (λ r j l inside. p.rest r j (omega arith) (omega arith) ∙ same r j (omega arith) (omega arith)))

sum-fits : (k : SumTables) (w a b to : ℕ) → 0 < w → IsLevel k.carries → AllFit w (sum_steps k w a b to)
unfolding sum_steps
sum-fits k w a b to pos whole =
    let ds = ripple w (carry_row ∷ a ∷ b ∷ []) k.digits k.carries carry_row result_row w in (
      clear-fits w carry_row,
      (
        above-fits w k.from k.from_on carry_row 0 0 (omega arith) (inr (refl, refl)),
        (
          clear-fits w result_row,
          AllFit-append w ds (commit w result_row to) (ripple-fits w (carry_row ∷ a ∷ b ∷ []) k.digits k.carries carry_row result_row w (level k.carries a b whole) (omega arith)) (commit-fits w result_row to (omega arith)),
        ),
      ),
    )

-- the list of a sum realises what its digits make
sum-realises : (k : SumTables) (w a b to : ℕ) (reads : Bool) (value : (ℕ → ℕ) → Bool → ℕ) → 0 < w → Apart carry_row result_row (a ∷ b ∷ []) → Apart carry_row result_row k.from → to < 32
    → IsLevel k.carries
    → ((e : ℕ → ℕ → Bool) (c : Bool) → (reads ≡ true → (j : ℕ) → j < w → e mask_row j ≡ c) → number w (digits_of k a b e) ≡ low w (value (λ r. number w (e r)) c))
    → Realises w to reads value (micros w (sum_steps k w a b to))
sum-realises k w a b to reads value pos rows from register whole is =
    lifted w to reads value (sum_steps k w a b to) (sum-fits k w a b to pos whole) (λ e. sum-writes k w a b to reads value e pos rows from register (is e))

-- ---- the kinds

pub add-numbers : SumNumbers add (λ w a b. a + b)
add-numbers w a b to reads pos rows register =
    sum-realises add w a b to reads (λ n c. n a + n b) pos rows tt register (λ a b. refl)
    (λ e c mask.
    let s = adder w (e a) (e b) false in
    let total : number w (sum_digits false (e a) (e b)) + cond (carried most_on false (e a) (e b) w) (2 ^ w) 0 ≡ number w (e a) + number w (e b) = omega arith in
    low-top w (number w (sum_digits false (e a) (e b))) (number w (e a) + number w (e b)) (carried most_on false (e a) (e b) w) (number-lt w (sum_digits false (e a) (e b))) total)

pub sub-numbers : SumNumbers sub (λ w a b. a + (2 ^ w - b))
sub-numbers w a b to reads pos rows register =
    sum-realises sub w a b to reads (λ n c. n a + (2 ^ w - n b)) pos rows tt register (λ a b. refl)
    (λ e c mask.
    let s = subtracter w (e a) (e b) true in
    let small = number-lt w (e b) in
    let total : number w (difference_digits true (e a) (e b)) + cond (carried most_not_on true (e a) (e b) w) (2 ^ w) 0 ≡ number w (e a) + (2 ^ w - number w (e b)) = omega arith in
    low-top w (number w (difference_digits true (e a) (e b))) (number w (e a) + (2 ^ w - number w (e b))) (carried most_not_on true (e a) (e b) w) (number-lt w (difference_digits true (e a) (e b))) total)

pub mask_in : (c : Bool) → hit (1 ∷ []) (c ∷ []) ≡ c
mask_in true = refl
mask_in false = refl

mask_not_in : (c : Bool) → hit (0 ∷ []) (c ∷ []) ≡ not c
mask_not_in true = refl
mask_not_in false = refl

pub adc-numbers : CarriedNumbers adc (λ w a b c. a + b + from_bool c)
adc-numbers w a b to pos rows register =
    sum-realises adc w a b to true (λ n c. n a + n b + from_bool c) pos rows (omega arith, omega arith, tt) register (λ a b. refl)
    (λ e c mask. ap (λ z. number w (sum_digits z (e a) (e b))) (ap (λ x. hit (1 ∷ []) (x ∷ [])) (mask refl 0 pos) ∙ mask_in c) ∙ total e c)
  where
    total : (e : ℕ → ℕ → Bool) (c : Bool) → number w (sum_digits c (e a) (e b)) ≡ low w (number w (e a) + number w (e b) + from_bool c)
    total e true = low-top w (number w (sum_digits true (e a) (e b))) (number w (e a) + number w (e b) + 1) (carried most_on true (e a) (e b) w) (number-lt w (sum_digits true (e a) (e b))) (adder w (e a) (e b) true)
    total e false = low-top w (number w (sum_digits false (e a) (e b))) (number w (e a) + number w (e b) + 0) (carried most_on false (e a) (e b) w) (number-lt w (sum_digits false (e a) (e b))) (adder w (e a) (e b) false)

pub sbc-numbers : CarriedNumbers sbc (λ w a b c. a + (2 ^ w - (b + from_bool c)))
sbc-numbers w a b to pos rows register =
    sum-realises sbc w a b to true (λ n c. n a + (2 ^ w - (n b + from_bool c))) pos rows (omega arith, omega arith, tt) register (λ a b. refl)
    (λ e c mask. ap (λ z. number w (difference_digits z (e a) (e b))) (ap (λ x. hit (0 ∷ []) (x ∷ [])) (mask refl 0 pos) ∙ mask_not_in c) ∙ total e c)
  where
    total : (e : ℕ → ℕ → Bool) (c : Bool) → number w (difference_digits (not c) (e a) (e b)) ≡ low w (number w (e a) + (2 ^ w - (number w (e b) + from_bool c)))
    total e true =
        let s = subtracter w (e a) (e b) false in
        let small = number-lt w (e b) in
        let t : number w (difference_digits false (e a) (e b)) + cond (carried most_not_on false (e a) (e b) w) (2 ^ w) 0 ≡ number w (e a) + (2 ^ w - (number w (e b) + 1)) = omega arith in
        low-top w (number w (difference_digits false (e a) (e b))) (number w (e a) + (2 ^ w - (number w (e b) + 1))) (carried most_not_on false (e a) (e b) w) (number-lt w (difference_digits false (e a) (e b))) t
    total e false =
        let s = subtracter w (e a) (e b) true in
        let small = number-lt w (e b) in
        let t : number w (difference_digits true (e a) (e b)) + cond (carried most_not_on true (e a) (e b) w) (2 ^ w) 0 ≡ number w (e a) + (2 ^ w - (number w (e b) + 0)) = omega arith in
        low-top w (number w (difference_digits true (e a) (e b))) (number w (e a) + (2 ^ w - (number w (e b) + 0))) (carried most_not_on true (e a) (e b) w) (number-lt w (difference_digits true (e a) (e b))) t
