-- The least number below another that passes a test, and how others stand to it.
use Rattle.std.proofs.Common.{◌≡◌, ℕ, zero, suc, ◌+◌, ◌<◌, ◌≤◌, Bool, true, false, cond, not, ◌&&◌, ◌||◌, eqb, ltb, leb, refl, sym, ◌∙◌, ap, arith, ⊎_elim}
use Rattle.std.proofs.lemmas.Bool.{cases_lt, cases_Bool, lt-ltb, le-ltb, le-leb, false≢true}
use Rattle.std.proofs.lemmas.Bool.Decides.{nat_tests}
use Rattle.fold_laws.specs.Folds.{any, least}
use Rattle.fold_laws.proofs.Anys.{any_of, any_is}
use Rattle.reduce_tree.specs.Tags.{least_below}
use Rattle.steer_net.specs.Moves.{reaches}
use Rattle.steer_net.specs.declared.reach.Reach.{Reach}
use Rattle.steer_net.specs.declared.reach.Reach.TheVariants.{Before, Upto, At}
use Rattle.gen_reduce.specs.Masks.{prefix_bit}

not_any : (n e : ℕ) (t : ℕ → Bool) → e ≤ n → any n t ≡ false → any e t ≡ false
not_any n e t le h = ⊎_elim
    (λ (x : any e t ≡ true). let r = any_is e t x in let l : r.0 < n = omega (arith, r.1) in absurd (false≢true (sym h ∙ any_of n t r.0 l r.2)))
    (λ (x : any e t ≡ false). x)
    (cases_Bool (any e t))

not_true : (b : Bool) → true ≡ not b → b ≡ false
not_true true h = absurd (false≢true (sym h))
not_true false h = refl

not_false : (b : Bool) → false ≡ not b → b ≡ true
not_false true h = refl
not_false false h = absurd (false≢true h)

none-below : (n m : ℕ) (t : ℕ → Bool) → n ≤ m → ((a : ℕ) → a < n → ltb a m ≡ not (any (suc a) t)) → any n t ≡ false
unfolding any
none-below zero m t h all = refl
none-below (suc n) m t h all = not_true (any (suc n) t) (sym (lt-ltb n m (omega arith)) ∙ all n (omega arith))

-- the least place stands above e where no place up to e passes
pub least-above : (n none : ℕ) (t : ℕ → Bool) (e : ℕ) → n ≤ none → e < n → ltb e (least_below none t n) ≡ not (any (suc e) t)
unfolding least_below any
least-above zero none t e le l = absurd (omega arith)
least-above (suc n) none t e le l =
    let m = least_below n t n in
    ⊎_elim
    (λ (x : m < n).
    let hit : any (suc m) t ≡ true = not_false (any (suc m) t) (sym (le-ltb m m (omega arith)) ∙ least-above n n t m (omega arith) x) in
    let r = any_is (suc m) t hit in
    rw (lt-ltb m n x) (⊎_elim
    (λ (a : e < n). least-above n n t e (omega arith) a)
    (λ (a : n ≤ e).
    let some : any (suc e) t ≡ true = any_of (suc e) t r.0 (omega (arith, r.1)) r.2 in
    rw (le-ltb e m (omega arith), some) refl)
    (cases_lt e n)))
    (λ (x : n ≤ m).
    let none_of : any n t ≡ false = none-below n m t x (λ a q. least-above n n t a (omega arith) q) in
    rw (le-ltb m n x) (⊎_elim
    (λ (a : e < n). rw (not_any n (suc e) t a none_of) (lt-ltb e _ (chosen (t n) e none a le)))
    (λ (a : n ≤ e). let q : e ≡ n = omega arith in rw (q, any, none_of) (top (t n) le))
    (cases_lt e n)))
    (cases_lt m n)
  where
    chosen : (b : Bool) (x m : ℕ) → x < n → suc n ≤ m → x < cond b n m
    chosen true x m a h = a
    chosen false x m a h = omega arith

    top : (b : Bool) → suc n ≤ none → ltb n (cond b n none) ≡ not b
    top true h = le-ltb n n (omega arith)
    top false h = lt-ltb n none (omega arith)

least-upto : (n none : ℕ) (t : ℕ → Bool) (e : ℕ) → n ≤ none → e < n → leb e (least_below none t n) ≡ not (any e t)
unfolding any
least-upto n none t zero le l = le-leb 0 (least_below none t n) (omega arith)
least-upto n none t (suc e) le l = step e (least_below none t n) ∙ least-above n none t e le (omega arith)
  where
    step : (a b : ℕ) → leb (suc a) b ≡ ltb a b
    step a b = grind (arith, nat_tests)

least-at : (n none : ℕ) (t : ℕ → Bool) (e : ℕ) → n ≤ none → e < n → eqb e (least_below none t n) ≡ (t e && not (any e t))
unfolding any
least-at n none t e le l =
    let m = least_below none t n in
    equal e m ∙ rw (least-upto n none t e le l, least-above n none t e le l) (last (any e t) (t e))
  where
    equal : (a b : ℕ) → eqb a b ≡ (leb a b && not (ltb a b))
    equal a b = grind (arith, nat_tests)

    last : (x y : Bool) → (not x && not (not (x || y))) ≡ (y && not x)
    last true true = refl
    last true false = refl
    last false true = refl
    last false false = refl

-- how a place stands to the least one
pub reached : (how : Reach) (n none : ℕ) (t : ℕ → Bool) (e : ℕ) → n ≤ none → e < n → reaches how (least_below none t n) e ≡ prefix_bit how t e
reached Before n none t e le l = least-above n none t e le l ∙ ap (λ (k : ℕ). not (any k t)) (let q : suc e ≡ e + 1 = omega arith in q)
reached Upto n none t e le l = least-upto n none t e le l
reached At n none t e le l = least-at n none t e le l

pub least-same : (n none : ℕ) (t u : ℕ → Bool) → ((k : ℕ) → k < n → t k ≡ u k) → least_below none t n ≡ least_below none u n
unfolding least_below
least-same zero none t u same = refl
least-same (suc n) none t u same = rw (same n (omega arith), least-same n n t u (λ k l. same k (omega arith))) refl

-- where there is one, it does not depend on what stands for none
least-none : (n a b : ℕ) (t : ℕ → Bool) → any n t ≡ true → least a n t ≡ least b n t
unfolding any least
least-none zero a b t some = absurd (false≢true some)
least-none (suc n) a b t some = split (any n t) (t n) (least a n t) (least b n t) some (λ h. least-none n a b t h)
  where
    split : (x y : Bool) (p q : ℕ) → (x || y) ≡ true → (x ≡ true → p ≡ q) → cond x p (cond y n a) ≡ cond x q (cond y n b)
    split true y p q some same = same refl
    split false true p q some same = refl
    split false false p q some same = absurd (false≢true some)

-- the two ways to say it
pub least-is : (n none : ℕ) (t : ℕ → Bool) → n ≤ none → least_below none t n ≡ least none n t
unfolding least_below least
least-is zero none t le = refl
least-is (suc n) none t le =
    let m = least_below n t n in
    let same : m ≡ least n n t = least-is n n t (omega arith) in
    ⊎_elim
    (λ (x : m < n).
    let hit : any (suc m) t ≡ true = not_false (any (suc m) t) (sym (le-ltb m m (omega arith)) ∙ least-above n n t m (omega arith) x) in
    let r = any_is (suc m) t hit in
    let some : any n t ≡ true = any_of n t r.0 (omega (arith, r.1)) r.2 in
    rw (lt-ltb m n x, some) (same ∙ least-none n n none t some))
    (λ (x : n ≤ m).
    let none_of : any n t ≡ false = none-below n m t x (λ a q. least-above n n t a (omega arith) q) in
    rw (le-ltb m n x, none_of) refl)
    (cases_lt m n)
