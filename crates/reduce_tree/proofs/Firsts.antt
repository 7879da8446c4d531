-- The least number that passes a test, and the first place of a tag.
use Rattle.std.proofs.Common.{◌≡◌, ◌≢◌, ℕ, zero, suc, ◌<◌, Bool, true, false, refl, arith, ⊎_elim}
use Rattle.std.proofs.lemmas.Bool.{cases_eq, lt-ltb, le-ltb}
use Rattle.bit_rows.specs.Slices.{Slices}
use Rattle.reduce_tree.specs.Tags.{places, is_tagged, NoTagBelow, IsFirstTag, least_below, no_place, first_place}

-- no number passes
pub least-none : (none n : ℕ) (test : ℕ → Bool) → ((k : ℕ) → k < n → test k ≡ false) → least_below none test n ≡ none
unfolding least_below
least-none none zero test fails = refl
least-none none (suc n) test fails =
    rw (least-none n n test (λ k l. fails k (omega arith)), le-ltb n n (omega arith), fails n (omega arith)) refl

-- a number passes, and no lesser one does
pub least-found : (none n k : ℕ) (test : ℕ → Bool) → k < n → test k ≡ true → ((j : ℕ) → j < k → test j ≡ false) → least_below none test n ≡ k
unfolding least_below
least-found none zero k test inside hit fails = absurd (omega arith)
least-found none (suc n) k test inside hit fails =
    ⊎_elim
    (λ (e : k ≡ n). rw (← e, least-none k k test fails, le-ltb k k (omega arith), hit) refl)
    (λ (o : k ≢ n). let l : k < n = omega arith in rw (least-found n n k test l hit fails, lt-ltb k n l) refl)
    (cases_eq k n)

-- what the tree answers is the first place
pub first-some : (s : Slices) (n : ℕ) → IsFirstTag n s → first_place s ≡ n
first-some s n is = least-found no_place (places s) n (is_tagged s) is.0 is.1 is.2

pub first-none : (s : Slices) → NoTagBelow (places s) s → first_place s ≡ no_place
first-none s none = least-none no_place (places s) (is_tagged s) none
