-- Folds of the elements that are chosen.
use Rattle.std.proofs.Common.{◌≡◌, ℕ, zero, suc, ◌+◌, ◌<◌, Bool, true, false, cond, refl, ◌∙◌, arith}
use Rattle.fold_laws.specs.Folds.{fold_chosen}

pub fold-same : (step : (a e : ℕ) → ℕ) (start : ℕ) (chosen other : ℕ → Bool) (f g : ℕ → ℕ) (n : ℕ)
    → ((k : ℕ) → k < n → (chosen k ≡ other k) × (f k ≡ g k)) → fold_chosen step start chosen f n ≡ fold_chosen step start other g n
unfolding fold_chosen
fold-same step start chosen other f g zero same = refl
fold-same step start chosen other f g (suc n) same =
    let here = same n (omega arith) in
    rw (here.0, here.1, fold-same step start chosen other f g n (λ k l. same k (omega arith))) refl

pub fold-cat : (step : (a e : ℕ) → ℕ) (start : ℕ) (chosen : ℕ → Bool) (f : ℕ → ℕ) (n m : ℕ)
    → fold_chosen step start chosen f (n + m) ≡ fold_chosen step (fold_chosen step start chosen f n) (λ k. chosen (n + k)) (λ k. f (n + k)) m
unfolding fold_chosen
fold-cat step start chosen f n zero = let e : n + 0 ≡ n = omega arith in rw e refl
fold-cat step start chosen f n (suc m) = let e : n + suc m ≡ suc (n + m) = omega arith in rw (e, fold-cat step start chosen f n m) refl

-- where none is chosen
pub fold-none : (step : (a e : ℕ) → ℕ) (start : ℕ) (chosen : ℕ → Bool) (f : ℕ → ℕ) (n : ℕ) → ((k : ℕ) → k < n → chosen k ≡ false)
    → fold_chosen step start chosen f n ≡ start
unfolding fold_chosen
fold-none step start chosen f zero none = refl
fold-none step start chosen f (suc n) none = rw (none n (omega arith)) (fold-none step start chosen f n (λ k l. none k (omega arith)))

-- what is made of a fold, where it is made of each step
pub fold-map : (h : ℕ → ℕ) (step other : (a e : ℕ) → ℕ) (start : ℕ) (chosen : ℕ → Bool) (f g : ℕ → ℕ) (n : ℕ)
    → ((a k : ℕ) → k < n → h (step a (f k)) ≡ other (h a) (g k)) → h (fold_chosen step start chosen f n) ≡ fold_chosen other (h start) chosen g n
unfolding fold_chosen
fold-map h step other start chosen f g zero each = refl
fold-map h step other start chosen f g (suc n) each =
    let so = fold_chosen step start chosen f n in
    let before : h so ≡ fold_chosen other (h start) chosen g n = fold-map h step other start chosen f g n (λ a k l. each a k (omega arith)) in
    elim (chosen n) as (λ c. h (cond c (step so (f n)) so) ≡ cond c (other (fold_chosen other (h start) chosen g n) (g n)) (fold_chosen other (h start) chosen g n)) [
      | true ↦ each so n (omega arith) ∙ rw before refl
      | false ↦ before
    ]
