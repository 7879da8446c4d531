-- Counts and least numbers past which nothing holds.
use Rattle.std.proofs.Common.{◌≡◌, ℕ, zero, suc, ◌+◌, ◌-◌, ◌<◌, ◌≤◌, Bool, true, false, cond, ◌||◌, refl, sym, ◌∙◌, ap, arith}
use Rattle.std.proofs.lemmas.Bool.{false≢true}
use Rattle.fold_laws.specs.Folds.{any, total, count, least}
use Rattle.fold_laws.proofs.Anys.{any-same}
use Rattle.fold_laws.proofs.Totals.{total-same, total-cat, total-none}

pub count-cut : (n to : ℕ) (t u : ℕ → Bool) → to ≤ n → ((k : ℕ) → k < to → t k ≡ u k) → ((k : ℕ) → k < n → to ≤ k → t k ≡ false) → count n t ≡ count to u
count-cut n to t u le same none =
    let e : n ≡ to + (n - to) = omega arith in
    let f : ℕ → ℕ = λ k. cond (t k) 1 0 in
    let last : total (n - to) (λ k. f (to + k)) ≡ 0 = total-none (n - to) (λ k. f (to + k)) (λ k l. rw (none (to + k) (omega arith) (omega arith)) refl) in
    let first : total to f ≡ count to u = total-same to f (λ k. cond (u k) 1 0) (λ k l. rw (same k l) refl) in
    let cat : total (to + (n - to)) f ≡ total to f + total (n - to) (λ k. f (to + k)) = total-cat to (n - to) f in
    ap (λ (m : ℕ). total m f) e ∙ omega (arith, last, first, cat)

pub count-few : (n : ℕ) (t : ℕ → Bool) → count n t ≤ n
unfolding total
count-few zero t = omega arith
count-few (suc n) t = elim (t n) as (λ b. total n (λ k. cond (t k) 1 0) + cond b 1 0 ≤ suc n) [
  | true ↦ omega (arith, count-few n t)
  | false ↦ omega (arith, count-few n t)
]

least-same : (x n : ℕ) (t u : ℕ → Bool) → ((k : ℕ) → k < n → t k ≡ u k) → least x n t ≡ least x n u
unfolding least
least-same x zero t u same = refl
least-same x (suc n) t u same = rw (same n (omega arith), any-same n t u (λ k l. same k (omega arith)), least-same x n t u (λ k l. same k (omega arith))) refl

-- where none holds there is no least one
least-none : (x n : ℕ) (t : ℕ → Bool) → any n t ≡ false → least x n t ≡ x
unfolding any least
least-none x zero t is = refl
least-none x (suc n) t is = parts (any n t) (t n) is
  where
    parts : (a b : Bool) → (a || b) ≡ false → cond a (least x n t) (cond b n x) ≡ x
    parts true b is = absurd (false≢true (sym is))
    parts false true is = absurd (false≢true (sym is))
    parts false false is = refl

none-holds : (x n : ℕ) (t : ℕ → Bool) (b : Bool) → any n t ≡ b → cond b (least x n t) x ≡ least x n t
none-holds x n t true is = refl
none-holds x n t false is = sym (least-none x n t is)

least-past : (x to d : ℕ) (t : ℕ → Bool) → ((k : ℕ) → to ≤ k → k < to + d → t k ≡ false) → least x (to + d) t ≡ least x to t
unfolding least
least-past x to zero t none = let e : to + 0 ≡ to = omega arith in rw e refl
least-past x to (suc d) t none =
    let e : to + suc d ≡ suc (to + d) = omega arith in
    let before : least x (to + d) t ≡ least x to t = least-past x to d t (λ k a b. none k a (omega arith)) in
    rw (e, none (to + d) (omega arith) (omega arith)) (none-holds x (to + d) t (any (to + d) t) refl ∙ before)

pub least-cut : (x n to : ℕ) (t u : ℕ → Bool) → to ≤ n → ((k : ℕ) → k < to → t k ≡ u k) → ((k : ℕ) → k < n → to ≤ k → t k ≡ false) → least x n t ≡ least x to u
least-cut x n to t u le same none =
    let e : n ≡ to + (n - to) = omega arith in
    ap (λ (m : ℕ). least x m t) e ∙ least-past x to (n - to) t (λ k a b. none k (omega arith) a) ∙ least-same x to t u same

pub least-few : (x n : ℕ) (t : ℕ → Bool) → n ≤ x → least x n t ≤ x
unfolding least
least-few x zero t le = omega arith
least-few x (suc n) t le = parts (any n t) (t n) (least-few x n t (omega arith))
  where
    parts : (a b : Bool) → least x n t ≤ x → cond a (least x n t) (cond b n x) ≤ x
    parts true b before = before
    parts false true before = omega arith
    parts false false before = omega arith
