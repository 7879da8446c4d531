-- Counts of the bits that are set.
use Rattle.std.proofs.Common.{◌≡◌, ℕ, zero, suc, ◌+◌, ◌*◌, ◌^◌, ◌/◌, ◌%◌, ◌-◌, ◌<◌, ◌≤◌, Bool, false, cond, eqb, List, [], ◌∷◌, ◌++◌, length, get_or, map, take, refl, ap, sym, ◌∙◌, arith, ⊎_elim, pow-suc, w64, Fits, lit≤}
use Rattle.std.proofs.lemmas.Bool.{cases_lt}
use lib.Lanes.{fold_l, chunk}
use Rattle.std.proofs.lemmas.List.Sums.{sum_by-cons}
use lib.Count.{ones, ones_step}
use Rattle.std.specs.List.{count_by, range_with_len}
use Rattle.std.specs.Int.{bit_at}
use Rattle.std.proofs.lemmas.Nat.Bits.{bit_at-suc, bit_at_lowest}
use Rattle.bit_rows.specs.Rows.{bits_of}
use Rattle.std.proofs.lemmas.Simd.{length-chunk, get_or-chunk}
use Rattle.std.proofs.lemmas.List.{take_more, get_or_past}
use Rattle.std.proofs.Math.Seq.{take-add}
use Rattle.std.proofs.lemmas.Nat.{ones-le}
use Rattle.bit_rows.specs.Words.{word_bit, IsTrimmed}

-- how many bits of words are set
abbrev pub ones_of : List ℕ → ℕ
ones_of [] = 0
ones_of (word ∷ words) = ones word + ones_of words

pub ones_of-append : (xs ys : List ℕ) → ones_of (xs ++ ys) ≡ ones_of xs + ones_of ys
ones_of-append [] ys = omega arith
ones_of-append (x ∷ xs) ys = let e = ones_of-append xs ys in omega arith

pub ones_of-more : (xs : List ℕ) (i : ℕ) → i < length xs → ones_of (take (i + 1) xs) ≡ ones_of (take i xs) + ones (get_or xs i 0)
ones_of-more xs i h = rw (take_more xs i 0 h) (ones_of-append (take i xs) (get_or xs i 0 ∷ []) ∙ omega arith)

-- words of 64 bits
abbrev pub Are64 : List ℕ → Type 0
Are64 xs = (k : ℕ) → Fits w64 (get_or xs k 0)

pub ones-64 : (xs : List ℕ) (i : ℕ) → Are64 xs → ones (get_or xs i 0) ≤ 64
ones-64 xs i h = ones-le 64 (get_or xs i 0) (h i).fits

-- a sum at 64 bits that does not wrap
fold-ones : (s : ℕ) (xs : List ℕ) → Are64 xs → s + 64 * length xs < 2 ^ 64 → fold_l (λ s x. (s + x) % 2 ^ 64) s (map (λ a. a) (map ones xs)) ≡ s + ones_of xs
fold-ones s [] h l = omega arith
fold-ones s (x ∷ xs) h l =
    let b : ones x ≤ 64 = ones-64 (x ∷ xs) 0 h in
    let e : (s + ones x) % 2 ^ 64 ≡ s + ones x = omega arith in
    ap (λ t. fold_l (λ s x. (s + x) % 2 ^ 64) t (map (λ a. a) (map ones xs))) e ∙ fold-ones (s + ones x) xs (λ k. h (suc k)) (omega arith) ∙ omega arith

chunk-64 : (xs : List ℕ) (i : ℕ) → Are64 xs → i + 4 ≤ length xs → Are64 (chunk i 4 xs)
chunk-64 xs i h l k = ⊎_elim
    (λ (m : k < 4). rw (get_or-chunk i 4 xs k 0 m) (h (i + k)))
    (λ (m : 4 ≤ k). rw (get_or_past (chunk i 4 xs) k 0 (omega (arith, length-chunk i 4 xs l))) (record { fits = lit≤ tt })) (cases_lt k 4)

-- the bits that are set in four words
pub lanes_ones : (xs : List ℕ) (i : ℕ) → Are64 xs → i + 4 ≤ length xs → fold_l (λ s x. (s + x) % 2 ^ 64) 0 (map (λ a. a) (map ones (chunk i 4 xs))) ≡ ones_of (chunk i 4 xs)
lanes_ones xs i h l =
    let n : length (chunk i 4 xs) ≡ 4 = length-chunk i 4 xs l in
    let lt : 0 + 64 * length (chunk i 4 xs) < 2 ^ 64 = rw n (lit≤ tt) in
    fold-ones 0 (chunk i 4 xs) (chunk-64 xs i h l) lt ∙ omega arith

-- at most 64 of each word
pub ones_of-le : (xs : List ℕ) → Are64 xs → ones_of xs ≤ 64 * length xs
ones_of-le [] h = omega arith
ones_of-le (x ∷ xs) h = let b : ones x ≤ 64 = ones-64 (x ∷ xs) 0 h in let r = ones_of-le xs (λ k. h (suc k)) in omega arith

-- what four lanes add
pub lanes_add : (xs : List ℕ) (i : ℕ) → Are64 xs → i + 4 ≤ length xs
    → (fold_l (λ s x. (s + x) % 2 ^ 64) 0 (map (λ a. a) (map ones (chunk i 4 xs))) ≤ 256)
    × (ones_of (take (i + 4) xs) ≡ ones_of (take i xs) + fold_l (λ s x. (s + x) % 2 ^ 64) 0 (map (λ a. a) (map ones (chunk i 4 xs))))
lanes_add xs i h l =
    let n : length (chunk i 4 xs) ≡ 4 = length-chunk i 4 xs l in
    let b = ones_of-le (chunk i 4 xs) (chunk-64 xs i h l) in
    rw (lanes_ones xs i h l) (omega arith, ap ones_of (take-add i 4 xs) ∙ ones_of-append (take i xs) (chunk i 4 xs))

-- ---- how many bits of a row are set
-- how many of the n places from a on are set
abbrev pub tally : (ℕ → Bool) → ℕ → ℕ → ℕ
tally f a zero = 0
tally f a (suc n) = cond (f a) 1 0 + tally f (a + 1) n

count_tally : (f : ℕ → Bool) (a n : ℕ) → count_by (λ bit. bit) (map f (range_with_len a n)) ≡ tally f a n
count_tally f a zero = refl
count_tally f a (suc n) = sum_by-cons (λ x. cond x 1 0) (f a) (map f (range_with_len (a + 1) n)) ∙ ap (λ t. cond (f a) 1 0 + t) (count_tally f (a + 1) n)

tally-same : (f g : ℕ → Bool) (a b n : ℕ) → ((j : ℕ) → j < n → f (a + j) ≡ g (b + j)) → tally f a n ≡ tally g b n
tally-same f g a b zero h = refl
tally-same f g a b (suc n) h =
    let x : f a ≡ g b = let p : a + 0 ≡ a = omega arith in let q : b + 0 ≡ b = omega arith in ap f (sym p) ∙ h 0 (omega arith) ∙ ap g q in
    let r : tally f (a + 1) n ≡ tally g (b + 1) n = tally-same f g (a + 1) (b + 1) n
    (λ j l. let p : a + 1 + j ≡ a + (j + 1) = omega arith in let q : b + (j + 1) ≡ b + 1 + j = omega arith in ap f p ∙ h (j + 1) (omega arith) ∙ ap g q) in
    rw (x, r) refl

tally-add : (f : ℕ → Bool) (a n m : ℕ) → tally f a (n + m) ≡ tally f a n + tally f (a + n) m
tally-add f a zero m = let p : a + 0 ≡ a = omega arith in let q : 0 + m ≡ m = omega arith in rw (p, q) (omega arith)
tally-add f a (suc n) m =
    let e = tally-add f (a + 1) n m in
    let q : suc n + m ≡ suc (n + m) = omega arith in
    let p : a + suc n ≡ a + 1 + n = omega arith in
    rw (q, p) (omega arith)

tally-none : (f : ℕ → Bool) (a n : ℕ) → ((j : ℕ) → a ≤ j → f j ≡ false) → tally f a n ≡ 0
tally-none f a zero h = refl
tally-none f a (suc n) h = rw (h a (omega arith), tally-none f (a + 1) n (λ j l. h j (omega arith))) refl

-- the bits of one word
word_tally : (n word : ℕ) → word < 2 ^ n → tally (λ j. eqb (bit_at word j) 1) 0 n ≡ ones word
unfolding ones
word_tally zero word h = let e : word ≡ 0 = omega arith in rw e refl
word_tally (suc n) word h =
    let half : word / 2 < 2 ^ n = omega (arith, pow-suc 2 n) in
    let r : tally (λ j. eqb (bit_at word j) 1) 1 n ≡ tally (λ j. eqb (bit_at (word / 2) j) 1) 0 n = tally-same _ _ 1 0 n
    (λ j l. let p : 1 + j ≡ suc j = omega arith in let q : 0 + j ≡ j = omega arith in rw (p, q, bit_at-suc word j) refl) in
    let z : cond (eqb (bit_at word 0) 1) 1 0 ≡ word % 2 = rw (bit_at_lowest word) (lowest (word % 2) (omega arith)) in
    rw (z, r, word_tally n (word / 2) half) (sym (ones_step word))
  where
    lowest : (x : ℕ) → x < 2 → cond (eqb x 1) 1 0 ≡ x
    lowest zero h = refl
    lowest (suc zero) h = refl
    lowest (suc (suc x)) h = absurd (omega arith)

words_tally : (m : ℕ) (ws : List ℕ) → Are64 ws → m ≤ length ws → tally (word_bit ws) 0 (64 * m) ≡ ones_of (take m ws)
words_tally zero ws h l = refl
words_tally (suc m) ws h l =
    let q : 64 * suc m ≡ 64 * m + 64 = omega arith in
    let s : suc m ≡ m + 1 = omega arith in
    let z : 0 + 64 * m ≡ 64 * m = omega arith in
    let one : tally (word_bit ws) (64 * m) 64 ≡ ones (get_or ws m 0) = tally-same (word_bit ws) (λ j. eqb (bit_at (get_or ws m 0) j) 1) (64 * m) 0 64
    (λ j k. let d : (64 * m + j) / 64 ≡ m = omega arith in let r : (64 * m + j) % 64 ≡ 0 + j = omega arith in rw (d, r) refl) ∙ word_tally 64 (get_or ws m 0) (h m).fits in
    rw (q, tally-add (word_bit ws) 0 (64 * m) 64, z, one, words_tally m ws h (omega arith), s) (sym (ones_of-more ws m (omega arith)))

pub count_words_row : (ws : List ℕ) → Are64 ws → (m : ℕ) → m ≡ length ws → ones_of (take m ws) ≡ count_by (λ bit. bit) (bits_of (64 * length ws) ws)
unfolding bits_of
count_words_row ws fits m e = rw e (sym (count_tally (word_bit ws) 0 (64 * length ws) ∙ words_tally (length ws) ws fits (omega arith)))

pub count_row : (n m : ℕ) (ws os : List ℕ) → IsTrimmed n ws → n ≤ 64 * m → ((k : ℕ) → word_bit os k ≡ word_bit ws k) → count_by (λ bit. bit) (bits_of (64 * m) os) ≡ count_by (λ bit. bit) (bits_of n ws)
unfolding bits_of
count_row n m ws os t h same =
    let q : n + (64 * m - n) ≡ 64 * m = omega arith in
    let a : tally (word_bit ws) 0 (n + (64 * m - n)) ≡ tally (word_bit ws) 0 n + tally (word_bit ws) (0 + n) (64 * m - n) = tally-add (word_bit ws) 0 n (64 * m - n) in
    let b : tally (word_bit ws) (0 + n) (64 * m - n) ≡ 0 = tally-none (word_bit ws) (0 + n) (64 * m - n) (λ j k. t j (omega arith)) in
    let e : tally (word_bit ws) 0 (64 * m) ≡ tally (word_bit ws) 0 n = omega (arith, ap (tally (word_bit ws) 0) q) in
    let s : tally (word_bit os) 0 (64 * m) ≡ tally (word_bit ws) 0 (64 * m) = tally-same (word_bit os) (word_bit ws) 0 0 (64 * m) (λ j l. same (0 + j)) in
    count_tally (word_bit os) 0 (64 * m) ∙ s ∙ e ∙ sym (count_tally (word_bit ws) 0 n)
