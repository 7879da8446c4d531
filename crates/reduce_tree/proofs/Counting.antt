-- How many of the numbers below n pass a test.
use Rattle.std.proofs.Common.{◌≡◌, ℕ, zero, suc, ◌+◌, ◌<◌, Bool, true, false, cond, refl, arith, ⊎_elim}
use Rattle.std.specs.List.{count_by, range_with_len}
use Rattle.std.proofs.lemmas.Bool.{cases_eq, cases_Bool}
use Rattle.std.proofs.lemmas.List.{map-id}
use Rattle.std.proofs.lemmas.List.FromFn.{sum_by-map-range_with_len_more}

-- one number more
pub count_more : (p : ℕ → Bool) (n m : ℕ) → m ≡ n + 1 → count_by p (range_with_len 0 m) ≡ count_by p (range_with_len 0 n) + cond (p n) 1 0
count_more p n m e =
    rw e (rw (map-id (range_with_len 0 (n + 1)), map-id (range_with_len 0 n)) at (sum_by-map-range_with_len_more (λ (x : ℕ). cond (p x) 1 0) (λ (x : ℕ). x) 0 n n (omega arith)))

-- one passes
pub count_some : (p : ℕ → Bool) (n k : ℕ) → k < n → p k ≡ true → 0 < count_by p (range_with_len 0 n)
count_some p zero k l h = absurd (omega arith)
count_some p (suc n) k l h =
    let more : count_by p (range_with_len 0 (suc n)) ≡ count_by p (range_with_len 0 n) + cond (p n) 1 0 = count_more p n (suc n) (omega arith) in
    ⊎_elim
    (λ (e : k ≡ n). let one : ◌≡◌ {A = ℕ} (cond (p n) 1 0) 1 = rw (← e, h) refl in omega (arith, more, one))
    (λ (e : k ≡ n → ⊥). let before : 0 < count_by p (range_with_len 0 n) = count_some p n k (omega arith) h in omega (arith, more, before)) (cases_eq k n)

-- where some pass, one does
pub some_counted : (p : ℕ → Bool) (n : ℕ) → 0 < count_by p (range_with_len 0 n) → (k : ℕ) × (k < n) × (p k ≡ true)
some_counted p zero h = absurd (omega arith)
some_counted p (suc n) h =
    let more : count_by p (range_with_len 0 (suc n)) ≡ count_by p (range_with_len 0 n) + cond (p n) 1 0 = count_more p n (suc n) (omega arith) in
    ⊎_elim
    (λ (e : p n ≡ true). (n, omega arith, e))
    (λ (e : p n ≡ false).
    let none : ◌≡◌ {A = ℕ} (cond (p n) 1 0) 0 = rw e refl in
    let r = some_counted p n (omega (arith, more, none, h)) in (r.0, omega (arith, r.1), r.2)) (cases_Bool (p n))
