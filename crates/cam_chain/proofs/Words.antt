-- A bit that is lent or read, and a word that is read from or written into a column.
use Rattle.std.proofs.Common.{◌≡◌, ℕ, ◌+◌, ◌*◌, ◌/◌, ◌^◌, ◌%◌, ◌<◌, ◌≤◌, Bool, true, false, cond, ◌&&◌, eqb, ltb, List, [], length, get_or, refl, ◌∙◌, ap, arith, ⊎_elim, bit_and, bit_or, w32, set, length-set, get_or-set_same, get_or-set_other}
use Rattle.std.specs.Int.{bit_at}
use Rattle.std.proofs.lemmas.List.{get_or_default}
use Rattle.std.proofs.lemmas.Nat.Bits.{shr_and_one, bit_at_set_same, bit_at_set_other}
use Rattle.std.proofs.lemmas.Bool.{cases_lt, cases_eq, cases_Bool, ltb-true, and_parts, lt-ltb, le-ltb, eq-eqb, ne_eqb}
use Rattle.bit_rows.specs.Slices.{placed}
use Rattle.cam_chain.specs.Slices.{word_written}
use Rattle.cam_chain.specs.ChainValue.{ChainValue, slices_of, EachLong}
use Rattle.cam_chain.proofs.SlicesLemmas.{same_slices}

-- a bit of a lent row
pub row_place : (v : ChainValue) (rows : List (List Bool)) (s r c : ℕ) (row : List Bool) → rows ≡ v.rows → length rows ≡ 2048 → row ≡ get_or rows (s * 64 + r) row
    → s < 32 → r < 64 → c < v.columns → get_or row c false ≡ (slices_of v).bit s r c
unfolding slices_of
row_place v rows s r c row same count e h k m =
    rw (lt-ltb s 32 h, lt-ltb c v.columns m, lt-ltb r 64 k)
    (ap (λ (x : List Bool). get_or x c false) (e ∙ get_or_default rows (s * 64 + r) row [] (omega arith) ∙ ap (λ (x : List (List Bool)). get_or x (s * 64 + r) []) same))

-- a bit of lent tags
pub tag_place : (v : ChainValue) (tags : List (List Bool)) (s c : ℕ) (row : List Bool) → tags ≡ v.tags → length tags ≡ 32 → row ≡ get_or tags s row
    → s < 32 → c < v.columns → get_or row c false ≡ (slices_of v).tag s c
unfolding slices_of
tag_place v tags s c row same count e h m =
    rw (lt-ltb s 32 h, lt-ltb c v.columns m)
    (ap (λ (x : List Bool). get_or x c false) (e ∙ get_or_default tags s row [] (omega arith) ∙ ap (λ (x : List (List Bool)). get_or x s []) same))

-- the bits of the word below i are read, and the others are 0
pub record Reading (v : ChainValue) (row col i word : ℕ) : Type 0 where
  pub done : (s : ℕ) → s < i → eqb (bit_at word s) 1 ≡ (slices_of v).bit s row col
  pub todo : (s : ℕ) → i ≤ s → bit_at word s ≡ 0

-- the next bit is set
pub read_set : (v : ChainValue) (row col i word : ℕ) → Reading v row col i word → i < 32 → true ≡ (slices_of v).bit i row col
    → Reading v row col (i + 1) (bit_or word (1 * 2 ^ i % 2 ^ 32))
read_set v row col i word p h e = record {
  done = λ s l. ⊎_elim
      (λ (q : s ≡ i). rw (q, bit_at_set_same w32 word i h) e)
      (λ (q : s ≡ i → ⊥). rw (bit_at_set_other w32 word i h s q) (p.done s (omega arith))) (cases_eq s i);
  todo = λ s l. let q : s ≡ i → ⊥ = omega arith in bit_at_set_other w32 word i h s q ∙ p.todo s (omega arith);
}

-- the next bit is clear
pub read_skip : (v : ChainValue) (row col i word : ℕ) → Reading v row col i word → false ≡ (slices_of v).bit i row col → Reading v row col (i + 1) word
read_skip v row col i word p e = record {
  done = λ s l. ⊎_elim
      (λ (q : s ≡ i). rw (q, p.todo i (omega arith)) e)
      (λ (q : s ≡ i → ⊥). p.done s (omega arith)) (cases_eq s i);
  todo = λ s l. p.todo s (omega arith);
}

-- the rows of the subarrays below i have the word's bits in the column, and all else is as it was
pub record Writing (n row col word : ℕ) (old : List (List Bool)) (i : ℕ) (now : List (List Bool)) : Type 0 where
  pub len : length now ≡ length old
  pub long : EachLong n now
  pub done : (s : ℕ) → s < i → get_or now (s * 64 + row) [] ≡ set (get_or old (s * 64 + row) []) col (eqb (bit_at word s) 1)
  pub todo : (s : ℕ) → i ≤ s → get_or now (s * 64 + row) [] ≡ get_or old (s * 64 + row) []
  pub rest : (s r : ℕ) → r < 64 → (r ≡ row → ⊥) → get_or now (s * 64 + r) [] ≡ get_or old (s * 64 + r) []

-- the next subarray gets its bit
pub write_more : (n row col word : ℕ) (old : List (List Bool)) (i : ℕ) (now : List (List Bool)) (before new : List Bool)
    → Writing n row col word old i now → row < 64 → i * 64 + row < length now → before ≡ get_or now (i * 64 + row) before
    → new ≡ set before col (eqb (bit_and (word / 2 ^ i) 1) 1) → Writing n row col word old (i + 1) (set now (i * 64 + row) new)
write_more n row col word old i now before new p r l b e =
    let q : before ≡ get_or now (i * 64 + row) [] = b ∙ get_or_default now (i * 64 + row) before [] l in
    let made : new ≡ set (get_or now (i * 64 + row) []) col (eqb (bit_at word i) 1) = e ∙ rw (shr_and_one word i) (ap (λ (x : List Bool). set x col (eqb (bit_at word i) 1)) q) in
    record {
      len = length-set now (i * 64 + row) new ∙ p.len;
      long = λ k m. ⊎_elim
          (λ (x : k ≡ i * 64 + row). rw (x, get_or-set_same now (i * 64 + row) new [] l) (ap length made ∙ length-set (get_or now (i * 64 + row) []) col (eqb (bit_at word i) 1) ∙ p.long (i * 64 + row) l))
          (λ (x : k ≡ i * 64 + row → ⊥). rw (get_or-set_other now (i * 64 + row) k new [] x) (p.long k (omega (arith, length-set now (i * 64 + row) new)))) (cases_eq k (i * 64 + row));
      done = λ s a. ⊎_elim
          (λ (x : s ≡ i). rw (x, get_or-set_same now (i * 64 + row) new [] l) (made ∙ rw (p.todo i (omega arith)) refl))
          (λ (x : s ≡ i → ⊥). let y : s * 64 + row ≡ i * 64 + row → ⊥ = omega arith in rw (get_or-set_other now (i * 64 + row) (s * 64 + row) new [] y) (p.done s (omega arith))) (cases_eq s i);
      todo = λ s a. let y : s * 64 + row ≡ i * 64 + row → ⊥ = omega arith in rw (get_or-set_other now (i * 64 + row) (s * 64 + row) new [] y) (p.todo s (omega arith));
      rest = λ s u v z. let y : s * 64 + u ≡ i * 64 + row → ⊥ = omega arith in rw (get_or-set_other now (i * 64 + row) (s * 64 + u) new [] y) (p.rest s u v z);
    }

-- a written bit, inside the chain and outside
written_place : (n row col word s r c : ℕ) (x y : Bool) → row < 64
    → (s < 32 → c < n → r < 64 → x ≡ cond (eqb r row && eqb c col) (eqb (bit_at word s) 1) y)
    → cond (placed n s c) (cond (ltb r 64) x false) false
    ≡ cond (placed n s c && eqb r row && eqb c col) (eqb (bit_at word s) 1) (cond (placed n s c) (cond (ltb r 64) y false) false)
written_place n row col word s r c x y z h =
    ⊎_elim
    (λ (p : placed n s c ≡ true). let q = and_parts (ltb s 32) (ltb c n) p in
    ⊎_elim (λ (l : r < 64). rw (p, lt-ltb r 64 l) (h (ltb-true s 32 q.0) (ltb-true c n q.1) l))
    (λ (l : 64 ≤ r). let ne : r ≡ row → ⊥ = omega arith in rw (p, ne_eqb r row ne, le-ltb r 64 l) refl) (cases_lt r 64))
    (λ (p : placed n s c ≡ false). rw p refl) (cases_Bool (placed n s c))

-- the bit of a place of the chain
written_bit : (v w : ChainValue) (row col word s r c : ℕ) → length v.rows ≡ 2048 → EachLong v.columns v.rows → Writing v.columns row col word v.rows 32 w.rows → col < v.columns → s < 32 → c < v.columns → r < 64
    → get_or (get_or w.rows (s * 64 + r) []) c false ≡ cond (eqb r row && eqb c col) (eqb (bit_at word s) 1) (get_or (get_or v.rows (s * 64 + r) []) c false)
written_bit v w row col word s r c count long h lt l m k =
    ⊎_elim
    (λ (e : r ≡ row).
    let inside : s * 64 + row < length v.rows = omega arith in
    let full : col < length (get_or v.rows (s * 64 + row) []) = rw (long (s * 64 + row) inside) lt in
    rw (e, eq-eqb row row refl, h.done s l)
    (⊎_elim
    (λ (q : c ≡ col). rw (q, eq-eqb col col refl) (get_or-set_same (get_or v.rows (s * 64 + row) []) col (eqb (bit_at word s) 1) false full))
    (λ (q : c ≡ col → ⊥). rw (ne_eqb c col q) (get_or-set_other (get_or v.rows (s * 64 + row) []) col c (eqb (bit_at word s) 1) false q)) (cases_eq c col)))
    (λ (e : r ≡ row → ⊥). rw (ne_eqb r row e, h.rest s r k e) refl) (cases_eq r row)

-- after all subarrays the word is written
pub written_all : (v w : ChainValue) (row col word : ℕ) → row < 64 → col < v.columns → length v.rows ≡ 2048 → EachLong v.columns v.rows → w.columns ≡ v.columns → w.tags ≡ v.tags
    → Writing v.columns row col word v.rows 32 w.rows → slices_of w ≡ word_written row col word (slices_of v)
unfolding slices_of
written_all v w row col word z lt count long p q h =
    same_slices (slices_of w) (word_written row col word (slices_of v)) p
    (λ s r c. rw p (written_place v.columns row col word s r c (get_or (get_or w.rows (s * 64 + r) []) c false) (get_or (get_or v.rows (s * 64 + r) []) c false) z
    (λ l m k. written_bit v w row col word s r c count long h lt l m k)))
    (λ s c. rw (p, q) refl) refl
