-- Numbers that rise, and where a number stands among them.
use Rattle.std.proofs.Common.{◌≡◌, ◌≢◌, ℕ, zero, suc, ◌+◌, ◌-◌, ◌<◌, ◌≤◌, List, length, get_or, Some, ap, ◌∙◌, arith, ⊎_elim}
use Rattle.std.specs.Prelude.{slice_get, insert}
use Rattle.std.specs.List.Sorted.{IsStrictlyIncreasing}
use Rattle.std.proofs.lemmas.Bool.{cases_lt, cases_eq, cases_order}
use Rattle.std.proofs.lemmas.List.Edits.{length-insert, get_or-insert_at, get_or-insert_below, get_or-insert_above}
use Rattle.std.proofs.lemmas.Option.{slice_get_within, get_or_from_slice_get, slice_get-get_or}

-- a later one is higher
pub rising-apart : (xs : List ℕ) (i j : ℕ) → IsStrictlyIncreasing xs → i < j → j < length xs → get_or xs i 0 < get_or xs j 0
rising-apart xs i zero rising apart inside = absurd (omega arith)
rising-apart xs i (suc j) rising apart inside =
    let one : j + 1 ≡ suc j = omega arith in
    let step : get_or xs j 0 < get_or xs (j + 1) 0 = rising j (omega arith) in
    let step' : get_or xs j 0 < get_or xs (suc j) 0 = rw one at step in
    ⊎_elim
    (λ (less : i < j). let rest = rising-apart xs i j rising less (omega arith) in let r : get_or xs i 0 < get_or xs (suc j) 0 = omega (arith, rest, step') in r)
    (λ (more : j ≤ i). let same : i ≡ j = omega arith in rw same step')
    (cases_lt i j)

pub rising-up_to : (xs : List ℕ) (i j : ℕ) → IsStrictlyIncreasing xs → i ≤ j → j < length xs → get_or xs i 0 ≤ get_or xs j 0
rising-up_to xs i j rising up inside =
    ⊎_elim
    (λ (less : i < j). let r = rising-apart xs i j rising less inside in let w : get_or xs i 0 ≤ get_or xs j 0 = omega (arith, r) in w)
    (λ (more : j ≤ i). let same : i ≡ j = omega arith in rw same (omega arith))
    (cases_lt i j)

-- one half is settled by the number in the middle
pub below-middle : (xs : List ℕ) (middle n : ℕ) → IsStrictlyIncreasing xs → middle < length xs → get_or xs middle 0 < n → (k : ℕ) → k < middle + 1 → get_or xs k 0 < n
below-middle xs middle n rising inside less k within =
    let up = rising-up_to xs k middle rising (omega arith) inside in
    omega (arith, up)

pub above-middle : (xs : List ℕ) (middle n : ℕ) → IsStrictlyIncreasing xs → n ≤ get_or xs middle 0 → (k : ℕ) → middle ≤ k → k < length xs → n ≤ get_or xs k 0
above-middle xs middle n rising more k from inside =
    let up = rising-up_to xs middle k rising from inside in
    omega (arith, up)

pub ruleset halving_steps = (below-middle, above-middle)

-- a number that stands at a place, and one that does not stand where it would have to
pub found-at : (xs : List ℕ) (at n : ℕ) → at < length xs → get_or xs at 0 ≡ n → slice_get xs at ≡ Some n
found-at xs at n inside is = slice_get-get_or xs at 0 inside ∙ ap Some is

pub nowhere : (xs : List ℕ) (at n : ℕ) → IsStrictlyIncreasing xs → (slice_get xs at ≡ Some n → ⊥) → ((k : ℕ) → k < at → get_or xs k 0 < n)
    → ((k : ℕ) → at ≤ k → k < length xs → n ≤ get_or xs k 0) → (k : ℕ) → slice_get xs k ≢ Some n
nowhere xs at n rising other below above k is =
    let within = slice_get_within xs k n is in
    let same : get_or xs k 0 ≡ n = get_or_from_slice_get xs k n 0 is in
    ⊎_elim
    (λ (less : k < at). let l = below k less in let none : ⊥ = omega (arith, l, same) in none)
    (λ (from : at ≤ k).
    ⊎_elim
    (λ (here : at ≡ k). other (rw here is))
    (λ (apart : at ≡ k → ⊥).
    let first = above at (omega arith) (omega arith) in
    let up = rising-apart xs at k rising (omega arith) within in
    let none : ⊥ = omega (arith, first, up, same) in
    none)
    (cases_eq at k))
    (cases_lt k at)

-- a number that is put between those below it and those above it
pub rising-insert : (xs : List ℕ) (at n : ℕ) → IsStrictlyIncreasing xs → at ≤ length xs → ((k : ℕ) → k < at → get_or xs k 0 < n) → (at < length xs → n < get_or xs at 0)
    → IsStrictlyIncreasing (insert xs at n)
rising-insert xs at n rising inside below above k more =
    let within : k + 1 < length xs + 1 = omega (arith, more, length-insert xs at n inside) in
    ⊎_elim
    (λ (here : k ≡ at).
    let next = get_or-insert_above xs at n 0 k (omega arith) inside in
    let first : get_or (insert xs at n) k 0 ≡ n = rw here (get_or-insert_at xs at n 0 inside) in
    let up = above (omega arith) in
    let up' : n < get_or xs k 0 = rw here up in
    omega (arith, next, first, up'))
    (λ other.
    ⊎_elim
    (λ (less : k < at).
    let first = get_or-insert_below xs at n 0 k less inside in
    ⊎_elim
    (λ (last : k + 1 ≡ at).
    let next : get_or (insert xs at n) (k + 1) 0 ≡ n = rw last (get_or-insert_at xs at n 0 inside) in
    let low = below k less in
    let r : get_or (insert xs at n) k 0 < get_or (insert xs at n) (k + 1) 0 = omega (arith, first, next, low) in
    r)
    (λ (apart : k + 1 ≡ at → ⊥).
    let next = get_or-insert_below xs at n 0 (k + 1) (omega arith) inside in
    let up = rising k (omega arith) in
    let r : get_or (insert xs at n) k 0 < get_or (insert xs at n) (k + 1) 0 = omega (arith, first, next, up) in
    r)
    (cases_eq (k + 1) at))
    (λ (later : at < k).
    let one : k - 1 + 1 ≡ k = omega arith in
    let first = rw one at (get_or-insert_above xs at n 0 (k - 1) (omega arith) inside) in
    let next = get_or-insert_above xs at n 0 k (omega arith) inside in
    let up = rw one at (rising (k - 1) (omega arith)) in
    let r : get_or (insert xs at n) k 0 < get_or (insert xs at n) (k + 1) 0 = omega (arith, first, next, up) in
    r)
    other)
    (cases_order k at)
