-- Folds over the numbers below n.
use Rattle.std.specs.Prelude.{ℕ, zero, suc, ◌+◌, max, Bool, false, cond, ◌||◌}
use lib.Dec.{ltb}

-- the sum
unfoldable pub total : (n : ℕ) → (f : ℕ → ℕ) → ℕ
total zero f = 0
total (suc n) f = total n f + f n

-- the greatest, or 0
unfoldable pub greatest : (n : ℕ) → (f : ℕ → ℕ) → ℕ
greatest zero f = 0
greatest (suc n) f = max (greatest n f) (f n)

-- whether the test holds of one
unfoldable pub any : (n : ℕ) → (test : ℕ → Bool) → Bool
any zero test = false
any (suc n) test = any n test || test n

-- of how many it holds
abbrev pub count : (n : ℕ) → (test : ℕ → Bool) → ℕ
count n test = total n (λ k. cond (test k) 1 0)

-- the least one of which it holds, or `none`
unfoldable pub least : (none : ℕ) → (n : ℕ) → (test : ℕ → Bool) → ℕ
least none zero test = none
least none (suc n) test = cond (any n test) (least none n test) (cond (test n) n none)

-- the one of which it holds that has k lesser ones
unfoldable pub nth : (k n : ℕ) → (test : ℕ → Bool) → ℕ
nth k zero test = 0
nth k (suc n) test = cond (ltb k (count n test)) (nth k n test) n

-- the fold of the elements that are chosen, from `start` on, the lowest first
unfoldable pub fold_chosen : (step : ℕ → ℕ → ℕ) (start : ℕ) (chosen : ℕ → Bool) (element : ℕ → ℕ) → ℕ → ℕ
fold_chosen step start chosen element zero = start
fold_chosen step start chosen element (suc n) =
    cond (chosen n) (step (fold_chosen step start chosen element n) (element n)) (fold_chosen step start chosen element n)
