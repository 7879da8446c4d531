-- Words of a row that are read bit by bit, and the mask.
use Rattle.std.proofs.Common.{◌≡◌, ℕ, ◌+◌, ◌*◌, ◌^◌, ◌%◌, ◌<◌, ◌≤◌, Bool, true, false, cond, ◌&&◌, ◌||◌, not, eqb, leb, List, refl, ap, ◌∙◌, arith, ⊎_elim, bit_or, w32}
use mathlib.Core.Bool.{beq}
use Rattle.std.specs.Int.{bit_at}
use Rattle.std.proofs.lemmas.Nat.Bits.{bit_at_set_same, bit_at_set_other}
use Rattle.std.proofs.lemmas.Bool.{cases_eq, cases_lt, le-leb, lt-leb, lt-ltb, le-ltb}
use Rattle.bit_rows.specs.Slices.{Slices}
use Rattle.steer_net.specs.declared.windows.Ones.{Ones}
use Rattle.steer_net.specs.Network.{numbered, bit_in, is_width, MaskReaches, is_free}
use Rattle.steer_net.specs.Rows.{mask_bit, is_one}
use Rattle.steer_net.proofs.Parts.{numbered_same}

-- the bits of the word below i are read, and the others are 0
pub record Reading (s : Slices) (row col i word : ℕ) : Type 0 where
  pub done : (k : ℕ) → k < i → eqb (bit_at word k) 1 ≡ s.bit k row col
  pub todo : (k : ℕ) → i ≤ k → bit_at word k ≡ 0

-- the next bit is set
pub read_set : (s : Slices) (row col i word : ℕ) → Reading s row col i word → i < 32 → true ≡ s.bit i row col
    → Reading s row col (i + 1) (bit_or word (1 * 2 ^ i % 2 ^ 32))
read_set s row col i word p h e = record {
  done = λ k l. ⊎_elim
      (λ (q : k ≡ i). rw (q, bit_at_set_same w32 word i h) e)
      (λ (q : k ≡ i → ⊥). rw (bit_at_set_other w32 word i h k q) (p.done k (omega arith))) (cases_eq k i);
  todo = λ k l. let q : k ≡ i → ⊥ = omega arith in bit_at_set_other w32 word i h k q ∙ p.todo k (omega arith);
}

-- the next bit is clear
pub read_skip : (s : Slices) (row col i word : ℕ) → Reading s row col i word → false ≡ s.bit i row col → Reading s row col (i + 1) word
read_skip s row col i word p e = record {
  done = λ k l. ⊎_elim
      (λ (q : k ≡ i). rw (q, p.todo i (omega arith)) e)
      (λ (q : k ≡ i → ⊥). p.done k (omega arith)) (cases_eq k i);
  todo = λ k l. p.todo k (omega arith);
}

-- the mask does not count
pub mask_unread : (ones : Ones) (f g : ℕ → Bool) (e : ℕ) → ones.on ≡ ones.off → is_one ones f e ≡ is_one ones g e
mask_unread ones f g e h = rw h (ap (λ b. cond (leb ones.to e) ones.tail (leb ones.from e && b)) (alike (f e) (g e) ones.off))
  where
    alike : (a b o : Bool) → cond a o o ≡ cond b o o
    alike true true o = refl
    alike true false o = refl
    alike false true o = refl
    alike false false o = refl

-- an element that is not from `from` on and below `to` needs no mask
pub mask_near : (ones : Ones) (f g : ℕ → Bool) (e : ℕ) → (ones.from ≤ e → e < ones.to → f e ≡ g e) → is_one ones f e ≡ is_one ones g e
mask_near ones f g e h =
    ⊎_elim
    (λ (l : e < ones.to). rw (lt-leb ones.to e l) (⊎_elim
    (λ (m : e < ones.from). rw (lt-leb ones.from e m) refl)
    (λ (m : ones.from ≤ e). rw (h m l) refl) (cases_lt e ones.from)))
    (λ (l : ones.to ≤ e). rw (le-leb ones.to e l) refl) (cases_lt e ones.to)

-- the row by the words that were read is the row by the register
pub by_words : (ones : Ones) (row width first : ℕ) (words : List ℕ) (s : Slices) → is_width width ≡ true → MaskReaches s.columns width first ones.from ones.to
    → ((e : ℕ) → e < 32 * s.columns → mask_bit words e ≡ bit_in s 0 e)
    → numbered row width first (is_one ones (mask_bit words)) s ≡ numbered row width first (is_one ones (bit_in s 0)) s
by_words ones row width first words s w reaches read =
    numbered_same row width first (is_one ones (mask_bit words)) (is_one ones (bit_in s 0)) s w
    (λ e l h. mask_near ones (mask_bit words) (bit_in s 0) e (λ from to. read e (reaches e l h from to)))

-- no word is read where the mask does not count
pub by_nothing : (ones : Ones) (row width first : ℕ) (words : List ℕ) (s : Slices) → ones.on ≡ ones.off
    → numbered row width first (is_one ones (mask_bit words)) s ≡ numbered row width first (is_one ones (bit_in s 0)) s
by_nothing ones row width first words s h =
    let e : is_one ones (mask_bit words) ≡ is_one ones (bit_in s 0) = λ i e. mask_unread ones (mask_bit words) (bit_in s 0) e h i in
    ap (λ what. numbered row width first what s) e

-- the test whether the mask counts
pub differ : (a b : Bool) → not (beq a b) ≡ true → a ≡ b → ⊥
differ true true h e = cc
differ true false h e = cc
differ false true h e = cc
differ false false h e = cc

pub agree : (a b : Bool) → not (beq a b) ≡ false → a ≡ b
agree true true h = refl
agree true false h = cc
agree false true h = cc
agree false false h = refl

-- the elements that are free
pub free_ones : (from to : ℕ) (masked tail off : Bool) (f : ℕ → Bool) → is_one (record { from = from; to = to; on = false; off = masked && off; tail = tail }) f ≡ is_free from to masked tail off f
free_ones from to masked tail off f = λ i e. one e i
  where
    tails : (t x y : Bool) → t ≡ (t && true) || (x && false && y)
    tails true true y = refl
    tails true false y = refl
    tails false true y = refl
    tails false false y = refl

    offs : (m o t v : Bool) → cond v false (m && o) ≡ (t && false) || (o && m && true && true && not v)
    offs true true true true = refl
    offs true true true false = refl
    offs true true false true = refl
    offs true true false false = refl
    offs true false true true = refl
    offs true false true false = refl
    offs true false false true = refl
    offs true false false false = refl
    offs false true true true = refl
    offs false true true false = refl
    offs false true false true = refl
    offs false true false false = refl
    offs false false true true = refl
    offs false false true false = refl
    offs false false false true = refl
    offs false false false false = refl

    nones : (t x y : Bool) → false ≡ (t && false) || (x && false && true && y)
    nones true true y = refl
    nones true false y = refl
    nones false true y = refl
    nones false false y = refl

    one : (e : ℕ) → is_one (record { from = from; to = to; on = false; off = masked && off; tail = tail }) f e ≡ is_free from to masked tail off f e
    one e = ⊎_elim
        (λ (l : e < to). rw (lt-leb to e l, lt-ltb e to l) (⊎_elim
        (λ (m : e < from). rw (lt-leb from e m) (nones tail (off && masked) (not (f e))))
        (λ (m : from ≤ e). rw (le-leb from e m) (offs masked off tail (f e))) (cases_lt e from)))
        (λ (l : to ≤ e). rw (le-leb to e l, le-ltb e to l) (tails tail (off && masked && leb from e) (not (f e)))) (cases_lt e to)
