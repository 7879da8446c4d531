-- How many places are set below one, and the place that has so many below it.
use Rattle.std.proofs.Common.{◌≡◌, ℕ, zero, suc, ◌+◌, ◌<◌, ◌≤◌, Bool, true, false, cond, refl, sym, ◌∙◌, arith, ⊎_elim}
use Rattle.std.specs.Int.{from_bool}
use Rattle.std.proofs.lemmas.Bool.{cases_eq, lt-ltb, le-ltb}
use Rattle.fold_laws.specs.Folds.{total, count, nth}

-- one place more
pub count-suc : (e : ℕ) (t : ℕ → Bool) → count (e + 1) t ≡ count e t + cond (t e) 1 0
unfolding total
count-suc e t = let k : e + 1 ≡ suc e = omega arith in rw k refl

pub one-most : (b : Bool) → from_bool b ≤ 1
one-most true = omega arith
one-most false = omega arith

-- counted by the code
pub count-step : (e k d : ℕ) (b : Bool) (t : ℕ → Bool) → k ≡ count e t → b ≡ t e → d ≡ from_bool b → k + d ≡ count (e + 1) t
count-step e k d b t so_far is bit = rw (so_far, bit, is) (number (t e) ∙ sym (count-suc e t))
  where
    number : (a : Bool) → count e t + from_bool a ≡ count e t + cond a 1 0
    number true = refl
    number false = refl

pub count-none : (t : ℕ → Bool) → 0 ≡ count 0 t
unfolding total
count-none t = refl

bit-most : (b : Bool) → cond b 1 0 ≤ 1
bit-most true = omega arith
bit-most false = omega arith

-- no more places than there are
pub count-most : (e : ℕ) (t : ℕ → Bool) → count e t ≤ e
unfolding total
count-most zero t = omega arith
count-most (suc e) t = omega (arith, count-most e t, bit-most (t e))

-- fewer below a set place than below the end
pub count-less : (n e : ℕ) (t : ℕ → Bool) → e < n → t e ≡ true → count e t < count n t
unfolding total
count-less zero e t inside set = absurd (omega arith)
count-less (suc n) e t inside set =
    ⊎_elim
    (λ (last : e ≡ n). rw (← last, set) (omega arith))
    (λ (other : e ≡ n → ⊥). omega (arith, count-less n e t (omega (arith, other)) set))
    (cases_eq e n)

-- a set place is the one with so many below it
pub nth-count : (n e : ℕ) (t : ℕ → Bool) → e < n → t e ≡ true → nth (count e t) n t ≡ e
unfolding nth
nth-count zero e t inside set = absurd (omega arith)
nth-count (suc n) e t inside set =
    ⊎_elim
    (λ (last : e ≡ n). rw (last, le-ltb (count n t) (count n t) (omega arith)) refl)
    (λ (other : e ≡ n → ⊥).
    let below : e < n = omega (arith, other) in
    rw (lt-ltb (count e t) (count n t) (count-less n e t below set)) (nth-count n e t below set))
    (cases_eq e n)
