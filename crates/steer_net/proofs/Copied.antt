-- Columns that are copied word by word.
use Rattle.std.proofs.Common.{◌≡◌, ℕ, ◌+◌, ◌-◌, ◌*◌, ◌^◌, ◌/◌, ◌%◌, ◌<◌, ◌≤◌, Bool, true, false, cond, ◌&&◌, ◌||◌, eqb, leb, ltb, List, length, get_or, set, slice_index, refl, sym, ◌∙◌, arith, ⊎_elim, bit_and, bit_or, bit_xor}
use Rattle.std.specs.Int.{bit_at}
use Rattle.std.proofs.lemmas.Bool.{cases_lt, cases_eq, and_parts, leb-true, lt-ltb, le-ltb, le-leb, lt-leb}
use Rattle.std.proofs.lemmas.Nat.{shr_split, shr-shr, pow_pos}
use Rattle.std.proofs.lemmas.Nat.Bits.{bit_at_cat_low, bit_at_cat_high, bit_at-zero, bit_at_above}
use Rattle.std.proofs.lemmas.List.{get_or-set_same, get_or-set_other}
use mathlib.Core.Bool.{beq}
use Rattle.bit_rows.specs.Words.{word_bit}
use Rattle.bit_rows.proofs.Words.{and_bit, or_bit, flip_bit}

-- ---- bits of numbers that are shifted

bit_at-mod : (n k i : ℕ) → i < k → bit_at (n % 2 ^ k) i ≡ bit_at n i
bit_at-mod n k i h = sym (bit_at_cat_low (n / 2 ^ k) k (n % 2 ^ k) i h) ∙ rw (shr_split n k) refl

shifted_in : (n t i : ℕ) → i < 64 → i < t → bit_at (n * 2 ^ t % 2 ^ 64) i ≡ 0
shifted_in n t i b h =
    let e : n * 2 ^ t ≡ n * 2 ^ t + 0 = omega arith in
    bit_at-mod (n * 2 ^ t) 64 i b ∙ rw e (bit_at_cat_low n t 0 i h ∙ bit_at-zero i)

shifted_up : (n t i : ℕ) → i < 64 → t ≤ i → bit_at (n * 2 ^ t % 2 ^ 64) i ≡ bit_at n (i - t)
shifted_up n t i b h =
    let e : n * 2 ^ t ≡ n * 2 ^ t + 0 = omega arith in
    let p : 0 < 2 ^ t = pow_pos t in
    bit_at-mod (n * 2 ^ t) 64 i b ∙ rw e (bit_at_cat_high n t 0 i p h)

shifted_down : (n t i : ℕ) → bit_at (n / 2 ^ t) i ≡ bit_at n (i + t)
shifted_down n t i = let e : t + i ≡ i + t = omega arith in rw (shr-shr n t i, e) refl

-- ---- words from a place of a row on

-- a row from one of its words on
pub whole_words : (row : List ℕ) (start place j : ℕ) → place ≡ start % 64 → place ≡ 0 → j < 64 → eqb (bit_at (slice_index row (start / 64) / 2 ^ place) j) 1 ≡ word_bit row (start + j)
whole_words row start place j p z h =
    let d : (start + j) / 64 ≡ start / 64 = omega arith in
    let m : (start + j) % 64 ≡ j + place = omega arith in
    rw (shifted_down (slice_index row (start / 64)) place j, d, m) refl

-- the end of a word, and the beginning of the next one
pub joined_words : (row : List ℕ) (start place j : ℕ) → place ≡ start % 64 → j < 64 → slice_index row (start / 64) < 2 ^ 64
    → eqb (bit_at (bit_or (slice_index row (start / 64) / 2 ^ place) (slice_index row (start / 64 + 1) * 2 ^ (64 - place) % 2 ^ 64)) j) 1 ≡ word_bit row (start + j)
joined_words row start place j p h small =
    or_bit (slice_index row (start / 64) / 2 ^ place) (slice_index row (start / 64 + 1) * 2 ^ (64 - place) % 2 ^ 64) j h ∙ ⊎_elim
    (λ (l : j + place < 64).
    let d : (start + j) / 64 ≡ start / 64 = omega arith in
    let m : (start + j) % 64 ≡ j + place = omega arith in
    rw (shifted_down (slice_index row (start / 64)) place j, shifted_in (slice_index row (start / 64 + 1)) (64 - place) j h (omega arith), d, m) (first (eqb (bit_at (slice_index row (start / 64)) (j + place)) 1)))
    (λ (l : 64 ≤ j + place).
    let d : (start + j) / 64 ≡ start / 64 + 1 = omega arith in
    let m : (start + j) % 64 ≡ j - (64 - place) = omega arith in
    rw (
      shifted_down (slice_index row (start / 64)) place j,
      bit_at_above (slice_index row (start / 64)) 64 (j + place) small l,
      shifted_up (slice_index row (start / 64 + 1)) (64 - place) j h (omega arith),
      d,
      m,
    ) refl) (cases_lt (j + place) 64)
  where
    first : (b : Bool) → b || false ≡ b
    first true = refl
    first false = refl

-- the beginning of a row, moved to a later place
pub later_word : (row : List ℕ) (at from j : ℕ) → at < from → from < at + 64 → j < 64 → from ≤ at + j
    → eqb (bit_at (slice_index row 0 * 2 ^ (from - at) % 2 ^ 64) j) 1 ≡ word_bit row (at + j - from)
later_word row at from j l m h k =
    let d : (at + j - from) / 64 ≡ 0 = omega arith in
    let n : (at + j - from) % 64 ≡ j - (from - at) = omega arith in
    rw (shifted_up (slice_index row 0) (from - at) j h (omega arith), d, n) refl

-- ---- columns that are copied

-- the columns of the words below i are copied
abbrev pub copying : (from to i : ℕ) → (bits old : ℕ → Bool) → ℕ → Bool
copying from to i bits old c = cond ((leb from c && ltb c to) && ltb c (64 * i)) (bits c) (old c)

pub copy_none : (from to c : ℕ) (bits old : ℕ → Bool) → old c ≡ copying from to (from / 64) bits old c
copy_none from to c bits old = ⊎_elim
    (λ (l : c < from). rw (lt-leb from c l) refl)
    (λ (l : from ≤ c). rw (le-leb from c l, le-ltb c (64 * (from / 64)) (omega arith)) (none (ltb c to))) (cases_lt c from)
  where
    none : (b : Bool) → old c ≡ cond (b && false) (bits c) (old c)
    none true = refl
    none false = refl

pub copy_all : (from to i c : ℕ) (bits old : ℕ → Bool) → to ≤ 64 * i → copying from to i bits old c ≡ cond (leb from c && ltb c to) (bits c) (old c)
copy_all from to i c bits old h = ⊎_elim
    (λ (l : c < to). rw (lt-ltb c to l, lt-ltb c (64 * i) (omega arith)) (all (leb from c)))
    (λ (l : to ≤ c). rw (le-ltb c to l) (none (leb from c))) (cases_lt c to)
  where
    all : (b : Bool) → cond ((b && true) && true) (bits c) (old c) ≡ cond (b && true) (bits c) (old c)
    all true = refl
    all false = refl

    none : (b : Bool) → cond ((b && false) && ltb c (64 * i)) (bits c) (old c) ≡ cond (b && false) (bits c) (old c)
    none true = refl
    none false = refl

pub copy_more : (from to i c range moved : ℕ) (bits old : ℕ → Bool) (words : List ℕ) → i < length words → word_bit words c ≡ copying from to i bits old c
    → ((j : ℕ) → j < 64 → eqb (bit_at range j) 1 ≡ (leb from (64 * i + j) && ltb (64 * i + j) to))
    → ((j : ℕ) → j < 64 → from ≤ 64 * i + j → eqb (bit_at moved j) 1 ≡ bits (64 * i + j))
    → word_bit (set words i (bit_or (bit_and (get_or words i 0) (bit_xor range 18446744073709551615)) (bit_and moved range))) c ≡ copying from to (i + 1) bits old c
copy_more from to i c range moved bits old words inside before ranges moves = ⊎_elim
    (λ (q : c / 64 ≡ i).
    let h : c % 64 < 64 = omega arith in
    let at : 64 * i + c % 64 ≡ c = omega arith in
    let in_range : eqb (bit_at range (c % 64)) 1 ≡ (leb from c && ltb c to) = rw at at (ranges (c % 64) h) in
    let past : 64 * i ≤ c = omega arith in
    let now : c < 64 * (i + 1) = omega arith in
    let kept : eqb (bit_at (get_or words i 0) (c % 64)) 1 ≡ old c = rw (q, le-ltb c (64 * i) past, idle (leb from c && ltb c to)) at before in
    rw (q, get_or-set_same words i _ 0 inside)
    (or_bit (bit_and (get_or words i 0) (bit_xor range 18446744073709551615)) (bit_and moved range) (c % 64) h
    ∙ rw (and_bit (get_or words i 0) (bit_xor range 18446744073709551615) (c % 64) h, and_bit moved range (c % 64) h, flip_bit false range (c % 64) h, in_range, kept, lt-ltb c (64 * (i + 1)) now)
    (chosen (leb from c && ltb c to) (eqb (bit_at moved (c % 64)) 1) (bits c) (old c)
    (λ r. let from_c : from ≤ 64 * i + c % 64 = rw at (leb-true from c (and_parts (leb from c) (ltb c to) r).0) in rw at at (moves (c % 64) h from_c)))))
    (λ (q : c / 64 ≡ i → ⊥). rw (get_or-set_other words i (c / 64) _ 0 q) (before ∙ ⊎_elim
    (λ (l : c < 64 * i). rw (lt-ltb c (64 * i) l, lt-ltb c (64 * (i + 1)) (omega arith)) refl)
    (λ (l : 64 * i ≤ c). rw (le-ltb c (64 * i) l, le-ltb c (64 * (i + 1)) (omega arith)) refl) (cases_lt c (64 * i)))) (cases_eq (c / 64) i)
  where
    idle : (b : Bool) → cond (b && false) (bits c) (old c) ≡ old c
    idle true = refl
    idle false = refl

    chosen : (b m x o : Bool) → (b ≡ true → m ≡ x) → (o && beq b false) || (m && b) ≡ cond (b && true) x o
    chosen true true x true h = h refl
    chosen true true x false h = h refl
    chosen true false x true h = h refl
    chosen true false x false h = h refl
    chosen false true x true h = refl
    chosen false true x false h = refl
    chosen false false x true h = refl
    chosen false false x false h = refl
