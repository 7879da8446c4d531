-- Whether a test holds of a number below another.
use Rattle.std.proofs.Common.{◌≡◌, ◌≢◌, ℕ, zero, suc, ◌+◌, ◌<◌, Bool, true, false, cond, ◌||◌, ltb, refl, sym, ◌∙◌, arith, ⊎_elim}
use Rattle.std.proofs.lemmas.Bool.{cases_eq, cases_Bool, false≢true, lt-ltb}
use Rattle.fold_laws.specs.Folds.{any, total}

pub any_is : (n : ℕ) (t : ℕ → Bool) → any n t ≡ true → (k : ℕ) × (k < n) × (t k ≡ true)
unfolding any
any_is zero t h = absurd (false≢true h)
any_is (suc n) t h =
    ⊎_elim
    (λ (e : any n t ≡ true). let r = any_is n t e in (r.0, omega (arith, r.1), r.2))
    (λ (e : any n t ≡ false). (n, omega arith, rw e at h))
    (cases_Bool (any n t))

pub any_of : (n : ℕ) (t : ℕ → Bool) (k : ℕ) → k < n → t k ≡ true → any n t ≡ true
unfolding any
any_of zero t k l h = absurd (omega arith)
any_of (suc n) t k l h =
    ⊎_elim
    (λ (e : k ≡ n). rw (← e, h) (or_true (any k t)))
    (λ (o : k ≢ n). rw (any_of n t k (omega arith) h) refl)
    (cases_eq k n)
  where
    or_true : (b : Bool) → (b || true) ≡ true
    or_true true = refl
    or_true false = refl

pub any_cat : (n m : ℕ) (t : ℕ → Bool) → any (n + m) t ≡ (any n t || any m (λ k. t (n + k)))
unfolding any
any_cat n zero t = let e : n + 0 ≡ n = omega arith in rw e (or_false (any n t))
  where
    or_false : (b : Bool) → b ≡ (b || false)
    or_false true = refl
    or_false false = refl
any_cat n (suc m) t = let e : n + suc m ≡ suc (n + m) = omega arith in rw (e, any_cat n m t) (or_assoc (any n t) (any m (λ k. t (n + k))) (t (n + m)))
  where
    or_assoc : (a b c : Bool) → ((a || b) || c) ≡ (a || (b || c))
    or_assoc true b c = refl
    or_assoc false b c = refl

-- a count is above 0 where the test holds of one
pub any-total : (n : ℕ) (t : ℕ → Bool) → ltb 0 (total n (λ k. cond (t k) 1 0)) ≡ any n t
unfolding any total
any-total zero t = refl
any-total (suc n) t =
    elim (t n) as (λ b. ltb 0 (total n (λ k. cond (t k) 1 0) + cond b 1 0) ≡ (any n t || b)) [
      | true ↦ lt-ltb 0 _ (omega arith) ∙ sym (or_true (any n t))
      | false ↦ (let e : total n (λ k. cond (t k) 1 0) + 0 ≡ total n (λ k. cond (t k) 1 0) = omega arith in rw e (any-total n t ∙ sym (or_false (any n t))))
    ]
  where
    or_true : (b : Bool) → (b || true) ≡ true
    or_true true = refl
    or_true false = refl

    or_false : (b : Bool) → (b || false) ≡ b
    or_false true = refl
    or_false false = refl

pub any-same : (n : ℕ) (t u : ℕ → Bool) → ((k : ℕ) → k < n → t k ≡ u k) → any n t ≡ any n u
unfolding any
any-same zero t u same = refl
any-same (suc n) t u same = rw (same n (omega arith), any-same n t u (λ k l. same k (omega arith))) refl
