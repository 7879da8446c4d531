-- The first tag, found subarray by subarray.
use Rattle.std.proofs.Common.{◌≡◌, ℕ, ◌+◌, ◌*◌, ◌/◌, ◌%◌, ◌<◌, ◌≤◌, true, false, List, length, Option, Some, None, MatchOption, refl, sym, ap, ◌∙◌, arith, ⊎_elim, min}
use Rattle.std.proofs.lemmas.Bool.{cases_lt, cases_eq}
use Rattle.std.proofs.lemmas.List.{get_or_past}
use Rattle.std.proofs.lemmas.Nat.Bits.{bit_at-zero}
use Rattle.bit_rows.specs.Slices.{Slices}
use Rattle.bit_rows.specs.Words.{word_bit, IsTrimmed}
use Rattle.reduce_tree.specs.Tags.{places, is_tagged, NoTagBelow, IsFirstTag, NoTagOf, IsFirstOf, lesser_of}

-- no tag of a place below n is set in the subarrays below `sub`
abbrev pub NoTagIn : ℕ → ℕ → Slices → Type 0
NoTagIn sub n s = (k : ℕ) → k < n → k % 32 < sub → is_tagged s k ≡ false

-- the place, where there is one, has the first tag of the subarrays below `sub`
abbrev pub IsLeast : ℕ → Option ℕ → Slices → Type 0
IsLeast sub place s = MatchOption place (NoTagIn sub (places s) s) (λ n. (n < places s) × (is_tagged s n ≡ true) × NoTagIn sub n s)

pub least_none : (s : Slices) → IsLeast 0 None s
least_none s k l m = absurd (omega arith)

-- the subarrays below `sub` and that one
both : (sub n m : ℕ) (s : Slices) → n ≤ m → NoTagIn sub m s → NoTagOf sub n s → NoTagIn (sub + 1) n s
both sub n m s h a b k l q = ⊎_elim (λ (e : k % 32 ≡ sub). b k l e) (λ (e : k % 32 ≡ sub → ⊥). a k (omega arith) (omega arith)) (cases_eq (k % 32) sub)

few : (sub n m : ℕ) (s : Slices) → n ≤ m → NoTagOf sub m s → NoTagOf sub n s
few sub n m s h b k l q = b k (omega arith) q

pub least_more : (sub : ℕ) (a b : Option ℕ) (s : Slices) → IsLeast sub a s → IsFirstOf sub b s → IsLeast (sub + 1) (lesser_of a b) s
least_more sub (Some x) (Some y) s p q = ⊎_elim
    (λ (l : x < y). let e : min x y ≡ x = omega arith in rw e (p.0, p.1, both sub x x s (omega arith) p.2 (few sub x y s (omega arith) q.3)))
    (λ (l : y ≤ x). let e : min x y ≡ y = omega arith in rw e (q.0, q.2, both sub y x s l p.2 q.3)) (cases_lt x y)
least_more sub (Some x) None s p q = (p.0, p.1, both sub x x s (omega arith) p.2 (few sub x (places s) s (omega (arith, p.0)) q))
least_more sub None (Some y) s p q = (q.0, q.2, both sub y (places s) s (omega (arith, q.0)) p q.3)
least_more sub None None s p q = both sub (places s) (places s) s (omega arith) p q

pub least_all : (sub : ℕ) (place : Option ℕ) (s : Slices) → 32 ≤ sub → IsLeast sub place s → MatchOption place (NoTagBelow (places s) s) (λ n. IsFirstTag n s)
least_all sub (Some n) s h p = (p.0, p.1, λ k l. p.2 k l (omega arith))
least_all sub None s h p = λ k l. p k l (omega arith)

-- the first bit of the words of a subarray
pub word_first : (s : Slices) (sub col : ℕ) (words : List ℕ) → sub < 32 → ((k : ℕ) → k < s.columns → word_bit words k ≡ s.tag sub k) → IsTrimmed s.columns words
    → word_bit words col ≡ true → ((k : ℕ) → k < col → word_bit words k ≡ false) → IsFirstOf sub (Some (32 * col + sub)) s
word_first s sub col words h bits past set first =
    let inside : col < s.columns = ⊎_elim (λ (l : col < s.columns). l) (λ (l : s.columns ≤ col). absurd (differ (sym set ∙ past col l))) (cases_lt col s.columns) in
    let d : (32 * col + sub) / 32 ≡ col = omega arith in
    let m : (32 * col + sub) % 32 ≡ sub = omega arith in (
      omega arith,
      m,
      ap (λ x. s.tag x ((32 * col + sub) / 32)) m ∙ ap (λ x. s.tag sub x) d ∙ sym (bits col inside) ∙ set,
      λ k l q. ap (λ x. s.tag x (k / 32)) q ∙ sym (bits (k / 32) (omega arith)) ∙ first (k / 32) (omega arith),
    )
  where
    differ : true ≡ false → ⊥
    differ e = cc

pub word_none : (s : Slices) (sub : ℕ) (words : List ℕ) → ((k : ℕ) → k < s.columns → word_bit words k ≡ s.tag sub k) → ((k : ℕ) → word_bit words k ≡ false) → IsFirstOf sub None s
word_none s sub words bits none k l q = ap (λ x. s.tag x (k / 32)) q ∙ sym (bits (k / 32) (omega arith)) ∙ none (k / 32)

-- a bit that is set lies in its words
pub col_few : (words : List ℕ) (col : ℕ) → length words ≤ 32 → word_bit words col ≡ true → col < 2048
col_few words col h set = ⊎_elim (λ (l : col < 2048). l)
    (λ (l : 2048 ≤ col). absurd (differ (sym set ∙ rw (get_or_past words (col / 64) 0 (omega arith), bit_at-zero (col % 64)) refl))) (cases_lt col 2048)
  where
    differ : true ≡ false → ⊥
    differ e = cc
