-- Sums.
use Rattle.std.proofs.Common.{◌≡◌, ◌≢◌, ℕ, zero, suc, ◌+◌, ◌*◌, ◌^◌, ◌<◌, Bool, true, false, cond, ◌&&◌, refl, sym, ◌∙◌, ap, arith, ⊎_elim}
use Rattle.std.proofs.lemmas.Bool.{cases_eq}
use Rattle.bit_laws.specs.Numbers.{number}
use Rattle.fold_laws.specs.Folds.{total}

pub total-same : (n : ℕ) (f g : ℕ → ℕ) → ((k : ℕ) → k < n → f k ≡ g k) → total n f ≡ total n g
unfolding total
total-same zero f g same = refl
total-same (suc n) f g same = rw (same n (omega arith), total-same n f g (λ k l. same k (omega arith))) refl

pub total-none : (n : ℕ) (f : ℕ → ℕ) → ((k : ℕ) → k < n → f k ≡ 0) → total n f ≡ 0
unfolding total
total-none zero f h = refl
total-none (suc n) f h = rw (h n (omega arith), total-none n f (λ k l. h k (omega arith))) refl

pub total-cat : (n m : ℕ) (f : ℕ → ℕ) → total (n + m) f ≡ total n f + total m (λ k. f (n + k))
unfolding total
total-cat n zero f = let e : n + 0 ≡ n = omega arith in rw e (omega arith)
total-cat n (suc m) f = let e : n + suc m ≡ suc (n + m) = omega arith in rw (e, total-cat n m f) (omega arith)

pub total-add : (n : ℕ) (f g : ℕ → ℕ) → total n (λ k. f k + g k) ≡ total n f + total n g
unfolding total
total-add zero f g = refl
total-add (suc n) f g = rw (total-add n f g) (omega arith)

pub total-times : (n c : ℕ) (f : ℕ → ℕ) → total n (λ k. f k * c) ≡ total n f * c
unfolding total
total-times zero c f = omega arith
total-times (suc n) c f = rw (total-times n c f) (omega arith)

-- one term of a sum, where the others are 0
pub total-one : (n j : ℕ) (f : ℕ → ℕ) → j < n → ((k : ℕ) → k < n → k ≢ j → f k ≡ 0) → total n f ≡ f j
unfolding total
total-one zero j f l h = absurd (omega arith)
total-one (suc n) j f l h =
    ⊎_elim
    (λ (e : j ≡ n). rw (e, total-none n f (λ k m. h k (omega arith) (λ q. omega (arith, q)))) (omega arith))
    (λ (e : j ≢ n). let m : j < n = omega arith in rw (h n (omega arith) (λ q. e (sym q)), total-one n j f m (λ k m. h k (omega arith))) (omega arith))
    (cases_eq j n)

-- one term of every w
pub total-lanes : (m w j : ℕ) (f : ℕ → ℕ) → j < w → ((p i : ℕ) → p < m → i < w → i ≢ j → f (p * w + i) ≡ 0) → total (m * w) f ≡ total m (λ p. f (p * w + j))
unfolding total
total-lanes zero w j f l h = let e : 0 * w ≡ 0 = omega arith in rw e refl
total-lanes (suc m) w j f l h =
    let e : suc m * w ≡ m * w + w = omega arith in
    rw (e, total-cat (m * w) w f, total-lanes m w j f l (λ p i a b c. h p i (omega arith) b c), total-one w j (λ k. f (m * w + k)) l (λ k a b. h m k (omega arith) a b)) refl

-- numbers by their bits, and sums by the bits of their terms
weighed : (a b : Bool) (c : ℕ) → cond (a && b) 1 0 * c ≡ cond a (cond b c 0) 0
weighed true true c = omega arith
weighed true false c = omega arith
weighed false b c = omega arith

parted : (a : Bool) (x y : ℕ) → cond a (x + y) 0 ≡ cond a x 0 + cond a y 0
parted true x y = refl
parted false x y = refl

pub total-number : (w n : ℕ) (act : ℕ → Bool) (f : ℕ → ℕ → Bool)
    → total w (λ j. total n (λ p. cond (act p && f p j) 1 0) * 2 ^ j) ≡ total n (λ p. cond (act p) (number w (f p)) 0)
unfolding total
total-number zero n act f = let z : total n (λ p. cond (act p) 0 0) ≡ 0 = total-none n (λ p. cond (act p) 0 0) (λ p l. none (act p)) in sym z
  where
    none : (b : Bool) → ◌≡◌ {A = ℕ} (cond b 0 0) 0
    none true = refl
    none false = refl
total-number (suc w) n act f =
    rw (total-number w n act f, ← total-times n (2 ^ w) (λ p. cond (act p && f p w) 1 0))
    (sym (total-add n (λ p. cond (act p) (number w (f p)) 0) (λ p. cond (act p && f p w) 1 0 * 2 ^ w))
    ∙ total-same n _ _ (λ p l. ap (λ z. cond (act p) (number w (f p)) 0 + z) (weighed (act p) (f p w) (2 ^ w)) ∙ sym (parted (act p) (number w (f p)) (cond (f p w) (2 ^ w) 0))))
