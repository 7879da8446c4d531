-- A chain of zeros.
use Rattle.std.proofs.Common.{◌≡◌, ℕ, ◌+◌, ◌*◌, ◌<◌, ◌≤◌, Bool, true, false, cond, ltb, [], get_or, refl, arith, ⊎_elim}
use Rattle.std.specs.Prelude.{replicate}
use Rattle.std.proofs.lemmas.List.{get_or_past, get_or-replicate, length-replicate}
use Rattle.std.proofs.lemmas.Bool.{cases_lt}
use Rattle.bit_rows.specs.Slices.{blank, placed}
use Rattle.cam_chain.specs.ChainValue.{ChainValue, slices_of, row_bit, EachLong}
use Rattle.cam_chain.proofs.SlicesLemmas.{same_slices}

-- a bit of a row of zeros, or past it
pub zero_bit : (n c : ℕ) → get_or (replicate n false) c false ≡ false
zero_bit n c = ⊎_elim (λ (h : c < n). get_or-replicate n c false false h)
    (λ (h : n ≤ c). get_or_past (replicate n false) c false (omega (arith, length-replicate n false))) (cases_lt c n)

-- a bit of rows of zeros, or past them
zero_place : (n m k c : ℕ) → get_or (get_or (replicate m (replicate n false)) k []) c false ≡ false
zero_place n m k c = ⊎_elim
    (λ (h : k < m). rw (get_or-replicate m k (replicate n false) [] h) (zero_bit n c))
    (λ (h : m ≤ k). rw (get_or_past (replicate m (replicate n false)) k [] (omega (arith, length-replicate m (replicate n false)))) refl) (cases_lt k m)

-- rows of zeros are of full length
pub EachLong-replicate : (n m : ℕ) → EachLong n (replicate m (replicate n false))
EachLong-replicate n m k h =
    let l : k < m = omega (arith, length-replicate m (replicate n false)) in
    rw (get_or-replicate m k (replicate n false) [] l) (length-replicate n false)

-- a guarded bit that is 0
off : (b x : Bool) → x ≡ false → cond b x false ≡ false
off true x e = e
off false x e = refl

-- the slices of a chain whose rows and tags are zeros
pub slices_of-blank : (v : ChainValue) (a b : ℕ) → v.rows ≡ replicate a (replicate v.columns false) → v.tags ≡ replicate b (replicate v.columns false) → slices_of v ≡ blank v.columns
unfolding slices_of
slices_of-blank v a b p q =
    same_slices (slices_of v) (blank v.columns) refl
    (λ s r c. off (placed v.columns s c) (row_bit v.rows (s * 64) r c) (off (ltb r 64) (get_or (get_or v.rows (s * 64 + r) []) c false) (rw p (zero_place v.columns a (s * 64 + r) c))))
    (λ s c. off (placed v.columns s c) (get_or (get_or v.tags s []) c false) (rw q (zero_place v.columns b s c))) refl
