-- A row that is written as packed words.
use Rattle.std.proofs.Common.{◌≡◌, ℕ, ◌+◌, ◌*◌, ◌<◌, ◌≤◌, Bool, true, false, cond, eqb, ltb, List, [], length, get_or, refl, ◌∙◌, arith, ⊎_elim, set, get_or-set_same, get_or-set_other}
use Rattle.std.proofs.lemmas.Bool.{cases_lt, cases_eq, cases_Bool, lt-ltb, le-ltb, eq-eqb, ne_eqb}
use Rattle.bit_rows.specs.Slices.{placed, words_written}
use Rattle.bit_rows.specs.Words.{word_bit}
use Rattle.cam_chain.specs.ChainValue.{ChainValue, slices_of}
use Rattle.cam_chain.proofs.SlicesLemmas.{same_slices}

-- a bit of rows of which one is written
row_bit_after : (rows : List (List Bool)) (at row : ℕ) (new : List Bool) (words : List ℕ) (s r c : ℕ) → row < 64 → r < 64 → at * 64 + row < length rows → get_or new c false ≡ word_bit words c
    → get_or (get_or (set rows (at * 64 + row) new) (s * 64 + r) []) c false
    ≡ cond (eqb r row) (cond (eqb s at) (word_bit words c) (get_or (get_or rows (s * 64 + r) []) c false)) (get_or (get_or rows (s * 64 + r) []) c false)
row_bit_after rows at row new words s r c z k l e =
    ⊎_elim
    (λ (x : r ≡ row). ⊎_elim
    (λ (y : s ≡ at). rw (x, y, get_or-set_same rows (at * 64 + row) new [] l, eq-eqb row row refl, eq-eqb at at refl) e)
    (λ (y : s ≡ at → ⊥). let ne : s * 64 + row ≡ at * 64 + row → ⊥ = omega arith in
    rw (x, get_or-set_other rows (at * 64 + row) (s * 64 + row) new [] ne, eq-eqb row row refl, ne_eqb s at y) refl) (cases_eq s at))
    (λ (x : r ≡ row → ⊥). let ne : s * 64 + r ≡ at * 64 + row → ⊥ = omega arith in
    rw (get_or-set_other rows (at * 64 + row) (s * 64 + r) new [] ne, ne_eqb r row x) refl) (cases_eq r row)

-- the same, inside the chain and outside
guarded_bit : (n at row : ℕ) (w : Bool) (s r c : ℕ) (x y : Bool) → row < 64
    → (r < 64 → x ≡ cond (eqb r row) (cond (eqb s at) w y) y)
    → cond (placed n s c) (cond (ltb r 64) x false) false
    ≡ cond (eqb r row) (cond (placed n s c) (cond (eqb s at) w (cond (placed n s c) (cond (ltb r 64) y false) false)) (cond (placed n s c) (cond (ltb r 64) y false) false)) (cond (placed n s c) (cond (ltb r 64) y false) false)
guarded_bit n at row w s r c x y z h =
    ⊎_elim
    (λ (p : placed n s c ≡ true).
    ⊎_elim (λ (l : r < 64). rw (p, lt-ltb r 64 l) (h l))
    (λ (l : 64 ≤ r). let ne : r ≡ row → ⊥ = omega arith in rw (p, ne_eqb r row ne, le-ltb r 64 l) refl) (cases_lt r 64))
    (λ (p : placed n s c ≡ false). rw p (none (eqb r row))) (cases_Bool (placed n s c))
  where
    none : (e : Bool) → false ≡ cond e false false
    none true = refl
    none false = refl

-- rows of which one has the bits of the words
pub row_written : (v w : ChainValue) (at row : ℕ) (new : List Bool) (words : List ℕ) → at < 32 → row < 64 → length v.rows ≡ 2048
    → ((c : ℕ) → get_or new c false ≡ word_bit words c) → w.columns ≡ v.columns → w.tags ≡ v.tags → w.rows ≡ set v.rows (at * 64 + row) new
    → slices_of w ≡ words_written at row words (slices_of v)
unfolding slices_of
row_written v w at row new words a z count bits p q e =
    let inside : at * 64 + row < length v.rows = omega arith in
    same_slices (slices_of w) (words_written at row words (slices_of v)) p
    (λ s r c. rw (p, e) (guarded_bit v.columns at row (word_bit words c) s r c _ (get_or (get_or v.rows (s * 64 + r) []) c false) z
    (λ k. row_bit_after v.rows at row new words s r c z k inside (bits c))))
    (λ s c. rw (p, q) refl) refl
