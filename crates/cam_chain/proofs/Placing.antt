-- One bit that is written.
use Rattle.std.proofs.Common.{◌≡◌, ℕ, ◌+◌, ◌*◌, ◌<◌, ◌≤◌, Bool, true, false, cond, ◌&&◌, eqb, ltb, List, [], length, get_or, refl, ◌∙◌, arith, ⊎_elim, set, get_or-set_same, get_or-set_other}
use Rattle.std.proofs.lemmas.List.{get_or_default}
use Rattle.std.proofs.lemmas.Bool.{cases_lt, cases_eq, cases_Bool, lt-ltb, le-ltb, eq-eqb, ne_eqb}
use Rattle.bit_rows.specs.Slices.{placed, bit_written}
use Rattle.cam_chain.specs.ChainValue.{ChainValue, slices_of, EachLong}
use Rattle.cam_chain.proofs.SlicesLemmas.{same_slices}

-- a bit of rows with one bit written
placed_bit : (rows : List (List Bool)) (at row col : ℕ) (bit : Bool) (s r c : ℕ) → row < 64 → r < 64 → at * 64 + row < length rows → col < length (get_or rows (at * 64 + row) [])
    → get_or (get_or (set rows (at * 64 + row) (set (get_or rows (at * 64 + row) []) col bit)) (s * 64 + r) []) c false
    ≡ cond (eqb r row) (cond (eqb s at && eqb c col) bit (get_or (get_or rows (s * 64 + r) []) c false)) (get_or (get_or rows (s * 64 + r) []) c false)
placed_bit rows at row col bit s r c z k l m =
    let new = set (get_or rows (at * 64 + row) []) col bit in
    ⊎_elim
    (λ (x : r ≡ row).
    ⊎_elim
    (λ (y : s ≡ at). rw (x, y, get_or-set_same rows (at * 64 + row) new [] l, eq-eqb row row refl, eq-eqb at at refl)
    (⊎_elim
    (λ (q : c ≡ col). rw (q, eq-eqb col col refl) (get_or-set_same (get_or rows (at * 64 + row) []) col bit false m))
    (λ (q : c ≡ col → ⊥). rw (ne_eqb c col q) (get_or-set_other (get_or rows (at * 64 + row) []) col c bit false q)) (cases_eq c col)))
    (λ (y : s ≡ at → ⊥). let ne : s * 64 + row ≡ at * 64 + row → ⊥ = omega arith in
    rw (x, get_or-set_other rows (at * 64 + row) (s * 64 + row) new [] ne, eq-eqb row row refl, ne_eqb s at y) refl) (cases_eq s at))
    (λ (x : r ≡ row → ⊥). let ne : s * 64 + r ≡ at * 64 + row → ⊥ = omega arith in
    rw (get_or-set_other rows (at * 64 + row) (s * 64 + r) new [] ne, ne_eqb r row x) refl) (cases_eq r row)

-- a bit, inside the chain and outside
guarded_bit : (n at row col : ℕ) (bit : Bool) (s r c : ℕ) (x y : Bool) → row < 64
    → (r < 64 → x ≡ cond (eqb r row) (cond (eqb s at && eqb c col) bit y) y)
    → cond (placed n s c) (cond (ltb r 64) x false) false
    ≡ cond (eqb r row) (cond (placed n s c && eqb s at && eqb c col) bit (cond (placed n s c) (cond (ltb r 64) y false) false)) (cond (placed n s c) (cond (ltb r 64) y false) false)
guarded_bit n at row col bit s r c x y z h =
    ⊎_elim
    (λ (p : placed n s c ≡ true).
    ⊎_elim (λ (l : r < 64). rw (p, lt-ltb r 64 l) (h l))
    (λ (l : 64 ≤ r). let ne : r ≡ row → ⊥ = omega arith in rw (p, ne_eqb r row ne, le-ltb r 64 l) refl) (cases_lt r 64))
    (λ (p : placed n s c ≡ false). rw p (none (eqb r row))) (cases_Bool (placed n s c))
  where
    none : (e : Bool) → false ≡ cond e false false
    none true = refl
    none false = refl

-- a row with one bit written is the slices with that bit written
pub one_written : (v w : ChainValue) (at row col : ℕ) (bit : Bool) (before : List Bool) → at < 32 → row < 64 → col < v.columns → length v.rows ≡ 2048 → EachLong v.columns v.rows
    → before ≡ get_or v.rows (at * 64 + row) before → w.columns ≡ v.columns → w.tags ≡ v.tags → w.rows ≡ set v.rows (at * 64 + row) (set before col bit)
    → slices_of w ≡ bit_written at row col bit (slices_of v)
unfolding slices_of
one_written v w at row col bit before a z m count long b p q e =
    let inside : at * 64 + row < length v.rows = omega arith in
    let full : col < length (get_or v.rows (at * 64 + row) []) = rw (long (at * 64 + row) inside) m in
    let same : before ≡ get_or v.rows (at * 64 + row) [] = b ∙ get_or_default v.rows (at * 64 + row) before [] inside in
    same_slices (slices_of w) (bit_written at row col bit (slices_of v)) p
    (λ s r c. rw (p, e, same) (guarded_bit v.columns at row col bit s r c _ (get_or (get_or v.rows (s * 64 + r) []) c false) z
    (λ k. placed_bit v.rows at row col bit s r c z k inside full)))
    (λ s c. rw (p, q) refl) refl
