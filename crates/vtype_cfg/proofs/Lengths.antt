-- The lengths that a vector register may have.
use Rattle.std.proofs.Common.{◌≡◌, ℕ, ◌*◌, ◌/◌, ◌≤◌, Bool, true, List, [], ◌∷◌, refl, arith, ⊎_elim, nat_le, ◌==◌}
use Rattle.std.specs.Prelude.{IsTrue}
use Rattle.std.specs.List.{list_all, list_any}
use Rattle.std.proofs.lemmas.Bool.{and_parts, or_cases, eqb-true, leb-true}
use Rattle.vtype_cfg.specs.Settings.{legal_vlens, is_legal_vlen}

from_some_length : (least n : ℕ) (lengths : List ℕ) → list_all (λ k. nat_le least k) lengths ≡ true → list_any (λ k. k == n) lengths ≡ true → least ≤ n
from_some_length least n [] all any = cc
from_some_length least n (k ∷ lengths) all any =
    let passed = and_parts (nat_le least k) (list_all (λ k. nat_le least k) lengths) all in
    ⊎_elim
    (λ here. let is : k ≡ n = eqb-true k n here in let most : least ≤ k = leb-true least k passed.0 in omega arith)
    (λ later. from_some_length least n lengths passed.1 later)
    (or_cases (k == n) (list_any (λ k. k == n) lengths) any)

-- a register has at least 32 bits
pub vlen_from : (vlen : ℕ) → IsTrue (is_legal_vlen vlen) → 32 ≤ vlen
unfolding is_legal_vlen legal_vlens
vlen_from vlen legal = from_some_length 32 vlen legal_vlens refl legal

-- what holds of each length holds of one of them
for_some_length : (test : ℕ → Bool) (n : ℕ) (lengths : List ℕ) → list_all test lengths ≡ true → list_any (λ k. k == n) lengths ≡ true → test n ≡ true
for_some_length test n [] all any = cc
for_some_length test n (k ∷ lengths) all any =
    let passed = and_parts (test k) (list_all test lengths) all in
    ⊎_elim
    (λ here. let is : k ≡ n = eqb-true k n here in rw is at passed.0)
    (λ later. for_some_length test n lengths passed.1 later)
    (or_cases (k == n) (list_any (λ k. k == n) lengths) any)

-- a register has whole words of 32 bits
pub vlen_words : (vlen : ℕ) → IsTrue (is_legal_vlen vlen) → 32 * (vlen / 32) ≡ vlen
unfolding is_legal_vlen legal_vlens
vlen_words vlen legal = eqb-true (32 * (vlen / 32)) vlen (for_some_length (λ k. 32 * (k / 32) == k) vlen legal_vlens refl legal)
