-- What a search has done after some subarrays.
use Rattle.std.proofs.Common.{◌≡◌, ℕ, ◌+◌, ◌*◌, ◌<◌, ◌≤◌, Bool, true, false, cond, ◌&&◌, ◌||◌, ltb, List, [], length, get_or, refl, sym, ◌∙◌, arith, ⊎_elim, eqb, set, length-set, get_or-set_same, get_or-set_other}
use Rattle.std.specs.Int.{bit_at}
use Rattle.std.proofs.lemmas.List.{get_or_default}
use Rattle.std.proofs.lemmas.Nat.Bits.{bit_at-zero}
use Rattle.std.proofs.lemmas.Bool.{cases_lt, cases_Bool, cases_eq, ltb-true, and_parts, eq-eqb, ne_eqb}
use Rattle.bit_rows.specs.Slices.{placed}
use Rattle.cam_chain.specs.Slices.{matches, selected, searched}
use Rattle.cam_chain.specs.ChainValue.{ChainValue, slices_of, row_bit, EachLong}
use Rattle.cam_chain.proofs.SlicesLemmas.{same_slices}

-- the tag of a subarray and a column, after the search
abbrev pub tag_after : ℕ → List (List Bool) → ℕ → List (ℕ × Bool) → Bool → List (List Bool) → ℕ → ℕ → Bool
tag_after n rows subs keys join tags s c =
    cond (selected subs s) (matches (λ r. row_bit rows (s * 64) r c) keys || (join && get_or (get_or tags s []) c false)) (get_or (get_or tags s []) c false)

-- the tags of the subarrays that are not left are searched, and the others as they were
pub record Searching (n : ℕ) (rows : List (List Bool)) (subs : ℕ) (keys : List (ℕ × Bool)) (join : Bool) (tags : List (List Bool)) (left : ℕ) (now : List (List Bool)) : Type 0 where
  pub len : length now ≡ length tags
  pub long : EachLong n now
  pub done : (s c : ℕ) → s < 32 → selected left s ≡ false → c < n → get_or (get_or now s []) c false ≡ tag_after n rows subs keys join tags s c
  pub todo : (s : ℕ) → s < 32 → selected left s ≡ true → get_or now s [] ≡ get_or tags s []
  pub within : (s : ℕ) → s < 32 → selected left s ≡ true → selected subs s ≡ true

-- a tag after the search, inside the chain and outside
tag_placed : (n : ℕ) (rows : List (List Bool)) (subs : ℕ) (keys : List (ℕ × Bool)) (join : Bool) (tags : List (List Bool)) (s c : ℕ) (x : Bool)
    → (s < 32 → c < n → x ≡ tag_after n rows subs keys join tags s c)
    → cond (placed n s c) x false
    ≡ cond (placed n s c && selected subs s)
    (matches (λ r. cond (placed n s c) (row_bit rows (s * 64) r c) false) keys || (join && cond (placed n s c) (get_or (get_or tags s []) c false) false))
    (cond (placed n s c) (get_or (get_or tags s []) c false) false)
tag_placed n rows subs keys join tags s c x h =
    ⊎_elim (λ (p : placed n s c ≡ true). let q = and_parts (ltb s 32) (ltb c n) p in rw p (h (ltb-true s 32 q.0) (ltb-true c n q.1)))
    (λ (p : placed n s c ≡ false). rw p refl) (cases_Bool (placed n s c))

-- nothing is left
pub none_left : (left s : ℕ) → left ≡ 0 → selected left s ≡ false
none_left left s e = rw (e, bit_at-zero s) refl

-- after all subarrays the search is done
pub searched_all : (v w : ChainValue) (subs left : ℕ) (keys : List (ℕ × Bool)) (join : Bool) → w.columns ≡ v.columns → w.rows ≡ v.rows → left ≡ 0
    → Searching v.columns v.rows subs keys join v.tags left w.tags → slices_of w ≡ searched subs keys join (slices_of v)
unfolding slices_of
searched_all v w subs left keys join p q e h =
    same_slices (slices_of w) (searched subs keys join (slices_of v)) p
    (λ s r c. rw (p, q) refl)
    (λ s c. rw p (tag_placed v.columns v.rows subs keys join v.tags s c (get_or (get_or w.tags s []) c false) (λ l m. h.done s c l (none_left left s e) m))) refl

-- a tag that is joined with the match
pub joined : (join tag matched wanted : Bool) → join ≡ true → matched ≡ wanted → tag || matched ≡ wanted || (join && tag)
joined join tag matched wanted j e = rw (j, e) (swapped tag wanted)
  where
    swapped : (a b : Bool) → a || b ≡ b || a
    swapped true true = refl
    swapped true false = refl
    swapped false true = refl
    swapped false false = refl

-- tags that become the match
pub alone : (join tag matched wanted : Bool) → join ≡ false → matched ≡ wanted → matched ≡ wanted || (join && tag)
alone join tag matched wanted j e = rw (j, e) (kept wanted)
  where
    kept : (a : Bool) → a ≡ a || false
    kept true = refl
    kept false = refl

-- at first all of the set are left
pub search_start : (n : ℕ) (rows : List (List Bool)) (subs : ℕ) (keys : List (ℕ × Bool)) (join : Bool) (tags : List (List Bool)) → EachLong n tags → Searching n rows subs keys join tags subs tags
search_start n rows subs keys join tags long = record { len = refl; long = long; done = λ s c l e m. rw e refl; todo = λ s l e. refl; within = λ s l e. e }

-- one subarray of the set fewer is left
abbrev pub Taken : ℕ → ℕ → ℕ → Type 0
Taken left i after = (s : ℕ) → s < 32 → selected after s ≡ cond (eqb s i) false (selected left s)

pub taken_other : (left i after s : ℕ) → Taken left i after → s < 32 → (s ≡ i → ⊥) → selected after s ≡ selected left s
taken_other left i after s t l q = t s l ∙ rw (ne_eqb s i q) refl

-- what is left after is not what was taken
pub taken_apart : (left i after s : ℕ) → Taken left i after → s < 32 → selected after s ≡ true → s ≡ i → ⊥
taken_apart left i after s t l e q = differ (sym e ∙ t s l ∙ rw (eq-eqb s i q) refl)
  where
    differ : true ≡ false → ⊥
    differ d = cc

-- the subarray is searched
pub search_one : (n : ℕ) (rows : List (List Bool)) (subs : ℕ) (keys : List (ℕ × Bool)) (join : Bool) (tags : List (List Bool)) (left i after : ℕ) (now : List (List Bool)) (row : List Bool)
    → Searching n rows subs keys join tags left now → Taken left i after → selected left i ≡ true → i < 32 → i < length now → length row ≡ n
    → ((c : ℕ) → c < n → get_or row c false ≡ (matches (λ r. row_bit rows (i * 64) r c) keys || (join && get_or (get_or now i []) c false)))
    → Searching n rows subs keys join tags after (set now i row)
search_one n rows subs keys join tags left i after now row p t h b l e each = record {
  len = length-set now i row ∙ p.len;
  long = λ k m. ⊎_elim (λ (q : k ≡ i). rw (q, get_or-set_same now i row [] l) e)
      (λ (q : k ≡ i → ⊥). rw (get_or-set_other now i k row [] q) (p.long k (omega (arith, length-set now i row)))) (cases_eq k i);
  done = λ s c d f m. ⊎_elim
      (λ (q : s ≡ i). rw (q, get_or-set_same now i row [] l, p.within i b h) (each c m ∙ rw (p.todo i b h) refl))
      (λ (q : s ≡ i → ⊥). rw (get_or-set_other now i s row [] q) (p.done s c d (sym (taken_other left i after s t d q) ∙ f) m)) (cases_eq s i);
  todo = λ s d f. let q = taken_apart left i after s t d f in rw (get_or-set_other now i s row [] q) (p.todo s d (sym (taken_other left i after s t d q) ∙ f));
  within = λ s d f. let q = taken_apart left i after s t d f in p.within s d (sym (taken_other left i after s t d q) ∙ f);
}

-- the same, as the call leaves its tags
pub search_turn : (n : ℕ) (rows : List (List Bool)) (subs : ℕ) (keys : List (ℕ × Bool)) (join : Bool) (tags : List (List Bool)) (left i after : ℕ) (now : List (List Bool)) (old row : List Bool) (slice : List (List Bool))
    → Searching n rows subs keys join tags left now → Taken left i after → selected left i ≡ true → i < 32 → i < length now
    → old ≡ get_or now i old → slice ≡ rows → length row ≡ length old
    → ((c : ℕ) → c < length old → get_or row c false ≡ (matches (λ r. row_bit slice (i * 64) r c) keys || (join && get_or old c false)))
    → Searching n rows subs keys join tags after (set now i row)
search_turn n rows subs keys join tags left i after now old row slice p t h b l o s e each =
    let q : old ≡ get_or now i [] = o ∙ get_or_default now i old [] l in
    let long : length old ≡ n = rw q (p.long i l) in
    search_one n rows subs keys join tags left i after now row p t h b l (e ∙ long)
    (λ c m. rw (← q, ← s) (each c (omega arith)))
