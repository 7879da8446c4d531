-- Words that are taken together, and their bits.
use Rattle.std.proofs.Common.{◌≡◌, ℕ, zero, suc, ◌+◌, ◌*◌, ◌^◌, ◌/◌, ◌%◌, ◌-◌, ◌<◌, ◌≤◌, Bool, true, false, ◌&&◌, ◌||◌, not, eqb, List, [], ◌∷◌, length, get_or, set, refl, ap, sym, ◌∙◌, arith, ⊎_elim, bit_and, bit_or, bit_xor, w64, min, max, replicate}
use lib.Lanes.{zip2, chunk, put_chunk}
use Rattle.std.specs.Int.{bit_at, trailing_zeros}
use Rattle.std.proofs.lemmas.Nat.{div-mul-add, mod-mul-add}
use Rattle.std.proofs.lemmas.Simd.{length-put_chunk, get_or-put_chunk_below, get_or-put_chunk_at, get_or-put_chunk_above, length-zip2, get_or-zip2, length-chunk, get_or-chunk, length-replicate, get_or-replicate}
use Rattle.std.proofs.lemmas.List.{get_or-set_same, get_or-set_other, length-set, get_or_past}
use Rattle.std.proofs.lemmas.Nat.Bits.{bit_at_and, bit_at_or, bit_at_xor, bit_at_ones, bit_at-trailing_zeros, bit_at-lt, bit_at-zero}
use Rattle.std.proofs.lemmas.Bool.{cases_lt, cases_eq}
use mathlib.Core.Bool.{beq}
use Rattle.bit_rows.specs.Words.{word_bit, flip_of}

-- the words below i are taken together, and the others are as they were
pub record Joined (f : ℕ → ℕ → ℕ) (i : ℕ) (old other now : List ℕ) : Type 0 where
  pub len : length now ≡ length old
  pub done : (k : ℕ) → k < i → get_or now k 0 ≡ f (get_or old k 0) (get_or other k 0)
  pub todo : (k : ℕ) → i ≤ k → get_or now k 0 ≡ get_or old k 0

pub joined_none : (f : ℕ → ℕ → ℕ) (old other : List ℕ) → Joined f 0 old other old
joined_none f old other = record { len = refl; done = λ k l. absurd (omega arith); todo = λ k l. refl }

-- one more word
pub joined_one : (f : ℕ → ℕ → ℕ) (i : ℕ) (old other now : List ℕ) → Joined f i old other now → i < length old
    → Joined f (i + 1) old other (set now i (f (get_or now i 0) (get_or other i 0)))
joined_one f i old other now p h = record {
  len = length-set now i _ ∙ p.len;
  done = λ k l. ⊎_elim
      (λ (q : k ≡ i). rw (q, get_or-set_same now i _ 0 (omega (arith, p.len))) (ap (λ x. f x (get_or other i 0)) (p.todo i (omega arith))))
      (λ (q : k ≡ i → ⊥). rw (get_or-set_other now i k _ 0 q) (p.done k (omega arith))) (cases_eq k i);
  todo = λ k l. let q : k ≡ i → ⊥ = omega arith in rw (get_or-set_other now i k _ 0 q) (p.todo k (omega arith));
}

-- the first word, where there is one
pub joined_first : (f : ℕ → ℕ → ℕ) (old other : List ℕ) → 0 < length old → Joined f 1 old other (set old 0 (f (get_or old 0 0) (get_or other 0 0)))
joined_first f old other h = joined_one f 0 old other old (joined_none f old other) h

-- the word that is all
pub one_word : (old from : List ℕ) → length old ≡ 1 → length from ≡ 1 → set old 0 (get_or from 0 0) ≡ from
one_word (x ∷ []) (y ∷ []) p q = refl
one_word [] from p q = absurd (omega arith)
one_word (x ∷ y ∷ old) from p q = absurd (omega arith)
one_word (x ∷ []) [] p q = absurd (omega arith)
one_word (x ∷ []) (y ∷ z ∷ from) p q = absurd (omega arith)

pub one_word_of : (old : List ℕ) (word : ℕ) → length old ≡ 1 → set old 0 word ≡ replicate (length old) word
one_word_of (x ∷ []) word p = refl
one_word_of [] word p = absurd (omega arith)
one_word_of (x ∷ y ∷ old) word p = absurd (omega arith)

-- n more words at once
pub joined_more : (f : ℕ → ℕ → ℕ) (n i : ℕ) (old other now lanes : List ℕ) → Joined f i old other now → i + n ≤ length old → length lanes ≡ n
    → ((j : ℕ) → j < n → get_or lanes j 0 ≡ f (get_or now (i + j) 0) (get_or other (i + j) 0)) → Joined f (i + n) old other (put_chunk i now lanes)
joined_more f n i old other now lanes p h z each = record {
  len = length-put_chunk i now _ ∙ p.len;
  done = λ k l. ⊎_elim
      (λ (q : k < i). get_or-put_chunk_below i now lanes k 0 q ∙ p.done k q)
      (λ (q : i ≤ k).
      let e : i + (k - i) ≡ k = omega arith in
      let m : k - i < n = omega arith in
      let at : get_or (put_chunk i now lanes) (i + (k - i)) 0 ≡ get_or lanes (k - i) 0 = get_or-put_chunk_at i now lanes (k - i) 0 (omega (arith, z)) (omega (arith, z, p.len)) in
      let lane = each (k - i) m in
      let w : get_or now k 0 ≡ get_or old k 0 = p.todo k q in
      cc) (cases_lt k i);
  todo = λ k l. get_or-put_chunk_above i now lanes k 0 (omega (arith, z)) ∙ p.todo k (omega arith);
}

-- the lanes of two loads taken together
pub joined_lanes : (f : ℕ → ℕ → ℕ) (n i : ℕ) (old other now : List ℕ) → Joined f i old other now → i + n ≤ length old → length old ≡ length other
    → Joined f (i + n) old other (put_chunk i now (zip2 f (chunk i n now) (chunk i n other)))
joined_lanes f n i old other now p h same =
    let a : length (chunk i n now) ≡ n = length-chunk i n now (omega (arith, p.len)) in
    let b : length (chunk i n other) ≡ n = length-chunk i n other (omega (arith, same)) in
    joined_more f n i old other now (zip2 f (chunk i n now) (chunk i n other)) p h (length-zip2 f (chunk i n now) (chunk i n other) (a ∙ sym b) ∙ a)
    (λ j m. get_or-zip2 f (chunk i n now) (chunk i n other) j 0 0 0 (omega (arith, a)) (omega (arith, b)) ∙ rw (get_or-chunk i n now j 0 m, get_or-chunk i n other j 0 m) refl)

-- the same, where the other load is first taken together with a splat
pub joined_lanes_with : (f g : ℕ → ℕ → ℕ) (y n i : ℕ) (old other now : List ℕ) → Joined (λ a b. f a (g b y)) i old other now → i + n ≤ length old → length old ≡ length other
    → Joined (λ a b. f a (g b y)) (i + n) old other (put_chunk i now (zip2 f (chunk i n now) (zip2 g (chunk i n other) (replicate n y))))
joined_lanes_with f g y n i old other now p h same =
    let a : length (chunk i n now) ≡ n = length-chunk i n now (omega (arith, p.len)) in
    let b : length (chunk i n other) ≡ n = length-chunk i n other (omega (arith, same)) in
    let r : length (replicate n y) ≡ n = length-replicate n y in
    let z : length (zip2 g (chunk i n other) (replicate n y)) ≡ n = length-zip2 g (chunk i n other) (replicate n y) (b ∙ sym r) ∙ b in
    joined_more (λ a b. f a (g b y)) n i old other now (zip2 f (chunk i n now) (zip2 g (chunk i n other) (replicate n y))) p h (length-zip2 f (chunk i n now) _ (a ∙ sym z) ∙ a)
    (λ j m. get_or-zip2 f (chunk i n now) _ j 0 0 0 (omega (arith, a)) (omega (arith, z))
    ∙ rw (get_or-zip2 g (chunk i n other) (replicate n y) j 0 0 0 (omega (arith, b)) (omega (arith, r)), get_or-chunk i n now j 0 m, get_or-chunk i n other j 0 m, get_or-replicate n j y 0 m) refl)

-- the lanes of the other load taken together with a splat
pub joined_splat : (g : ℕ → ℕ → ℕ) (y n i : ℕ) (old other now : List ℕ) → Joined (λ a b. g b y) i old other now → i + n ≤ length old → length old ≡ length other
    → Joined (λ a b. g b y) (i + n) old other (put_chunk i now (zip2 g (chunk i n other) (replicate n y)))
joined_splat g y n i old other now p h same =
    let b : length (chunk i n other) ≡ n = length-chunk i n other (omega (arith, same)) in
    let r : length (replicate n y) ≡ n = length-replicate n y in
    joined_more (λ a b. g b y) n i old other now (zip2 g (chunk i n other) (replicate n y)) p h (length-zip2 g (chunk i n other) (replicate n y) (b ∙ sym r) ∙ b)
    (λ j m. get_or-zip2 g (chunk i n other) (replicate n y) j 0 0 0 (omega (arith, b)) (omega (arith, r)) ∙ rw (get_or-chunk i n other j 0 m, get_or-replicate n j y 0 m) refl)

-- bits of words that were taken together, where f is g bit by bit and gives 0 of 0
pub joined_bits : (f : ℕ → ℕ → ℕ) (g : Bool → Bool → Bool) (i : ℕ) (old other now : List ℕ) → Joined f i old other now → length old ≤ i → length old ≡ length other
    → ((a b j : ℕ) → j < 64 → eqb (bit_at (f a b) j) 1 ≡ g (eqb (bit_at a j) 1) (eqb (bit_at b j) 1)) → g false false ≡ false
    → (k : ℕ) → word_bit now k ≡ g (word_bit old k) (word_bit other k)
joined_bits f g i old other now p h same bits none k =
    ⊎_elim
    (λ (l : k / 64 < length old). rw (p.done (k / 64) (omega arith)) (bits (get_or old (k / 64) 0) (get_or other (k / 64) 0) (k % 64) (omega arith)))
    (λ (l : length old ≤ k / 64).
    rw (get_or_past now (k / 64) 0 (omega (arith, p.len)), get_or_past old (k / 64) 0 l, get_or_past other (k / 64) 0 (omega (arith, same)), bit_at-zero (k % 64)) (sym none))
    (cases_lt (k / 64) (length old))

pub and_bit : (a b j : ℕ) → j < 64 → eqb (bit_at (bit_and a b) j) 1 ≡ eqb (bit_at a j) 1 && eqb (bit_at b j) 1
and_bit a b j m = rw (bit_at_and a b j) (at (bit_at a j) (bit_at b j) (bit_at-lt a j) (bit_at-lt b j))
  where
    at : (x y : ℕ) → x < 2 → y < 2 → eqb (min x y) 1 ≡ eqb x 1 && eqb y 1
    at x y h l = grind arith

pub or_bit : (a b j : ℕ) → j < 64 → eqb (bit_at (bit_or a b) j) 1 ≡ eqb (bit_at a j) 1 || eqb (bit_at b j) 1
or_bit a b j m = rw (bit_at_or a b j) (at (bit_at a j) (bit_at b j) (bit_at-lt a j) (bit_at-lt b j))
  where
    at : (x y : ℕ) → x < 2 → y < 2 → eqb (max x y) 1 ≡ eqb x 1 || eqb y 1
    at x y h l = grind arith

pub flip_bit : (want : Bool) (b j : ℕ) → j < 64 → eqb (bit_at (bit_xor b (flip_of want)) j) 1 ≡ beq (eqb (bit_at b j) 1) want
flip_bit want b j m = flipped want
  where
    same : (x : ℕ) → x < 2 → eqb ((x + 0) % 2) 1 ≡ beq (eqb x 1) true
    same zero h = refl
    same (suc zero) h = refl
    same (suc (suc x)) h = absurd (omega arith)

    other : (x : ℕ) → x < 2 → eqb ((x + 1) % 2) 1 ≡ beq (eqb x 1) false
    other zero h = refl
    other (suc zero) h = refl
    other (suc (suc x)) h = absurd (omega arith)

    flipped : (want : Bool) → eqb (bit_at (bit_xor b (flip_of want)) j) 1 ≡ beq (eqb (bit_at b j) 1) want
    flipped true = rw (bit_at_xor b 0 j, bit_at-zero j) (same (bit_at b j) (bit_at-lt b j))
    flipped false = rw (bit_at_xor b 18446744073709551615 j, bit_at_ones 64 j m) (other (bit_at b j) (bit_at-lt b j))

pub match_bit : (want : Bool) (a b j : ℕ) → j < 64 → eqb (bit_at (bit_and a (bit_xor b (flip_of want))) j) 1 ≡ eqb (bit_at a j) 1 && beq (eqb (bit_at b j) 1) want
match_bit want a b j m = and_bit a (bit_xor b (flip_of want)) j m ∙ ap (λ x. eqb (bit_at a j) 1 && x) (flip_bit want b j m)

-- ---- flipped words
pub flip_bits : (i : ℕ) (ws now : List ℕ) → Joined (λ a b. bit_xor a 18446744073709551615) i ws ws now → (k : ℕ) → k < 64 * i → word_bit now k ≡ not (word_bit ws k)
flip_bits i ws now p k l =
    let b : bit_at 18446744073709551615 (k % 64) ≡ 1 = bit_at_ones 64 (k % 64) (omega arith) in
    rw (p.done (k / 64) (omega arith), bit_at_xor (get_or ws (k / 64) 0) 18446744073709551615 (k % 64), b) (other (bit_at (get_or ws (k / 64) 0) (k % 64)) (bit_at-lt (get_or ws (k / 64) 0) (k % 64)))
  where
    other : (x : ℕ) → x < 2 → eqb ((x + 1) % 2) 1 ≡ not (eqb x 1)
    other zero h = refl
    other (suc zero) h = refl
    other (suc (suc x)) h = absurd (omega arith)

-- ---- the first bit
pub zero_before : (ws : List ℕ) (i : ℕ) → ((k : ℕ) → k < i → get_or ws k 0 ≡ 0) → (k : ℕ) → k / 64 < i → word_bit ws k ≡ false
zero_before ws i h k l = rw (h (k / 64) l, bit_at-zero (k % 64)) refl

pub zero_all : (ws : List ℕ) (i : ℕ) → length ws ≤ i → ((k : ℕ) → k < i → get_or ws k 0 ≡ 0) → (k : ℕ) → word_bit ws k ≡ false
zero_all ws i l h k = ⊎_elim
    (λ (m : k / 64 < i). zero_before ws i h k m)
    (λ (m : i ≤ k / 64). rw (get_or_past ws (k / 64) 0 (omega arith), bit_at-zero (k % 64)) refl) (cases_lt (k / 64) i)

pub first_bit_is : (i : ℕ) (ws : List ℕ) → get_or ws i 0 < 2 ^ 64 → ((k : ℕ) → k < i → get_or ws k 0 ≡ 0) → (get_or ws i 0 ≡ 0 → ⊥)
    → (word_bit ws (i * 64 + trailing_zeros w64 (get_or ws i 0)) ≡ true) × ((k : ℕ) → k < i * 64 + trailing_zeros w64 (get_or ws i 0) → word_bit ws k ≡ false)
first_bit_is i ws fits h ne =
    let z = bit_at-trailing_zeros w64 (get_or ws i 0) (omega arith) fits in
    let j : ℕ = trailing_zeros w64 (get_or ws i 0) in
    let d : (i * 64 + j) / 64 ≡ i = div-mul-add i 64 j z.0 in
    let r : (i * 64 + j) % 64 ≡ j = mod-mul-add i 64 j z.0 in (
      rw (d, r, z.1) refl,
      λ k l. ⊎_elim
          (λ (m : k / 64 < i). zero_before ws i h k m)
          (λ (m : i ≤ k / 64). let lt : j < 64 = z.0 in let q : k / 64 ≡ i = omega arith in let b : k % 64 < j = omega arith in rw (q, z.2 (k % 64) b) refl) (cases_lt (k / 64) i),
    )

-- ---- matched words
pub first_bits : (want : Bool) (i : ℕ) (old row now : List ℕ) → Joined (λ a b. bit_xor b (flip_of want)) i old row now → (k : ℕ) → k < 64 * i → word_bit now k ≡ beq (word_bit row k) want
first_bits want i old row now p k l = rw (p.done (k / 64) (omega arith)) (flip_bit want (get_or row (k / 64) 0) (k % 64) (omega arith))
