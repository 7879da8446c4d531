-- Tags that are counted subarray by subarray.
use Rattle.std.proofs.Common.{◌≡◌, ℕ, zero, suc, ◌+◌, ◌*◌, ◌/◌, ◌%◌, ◌<◌, ◌≤◌, Bool, true, false, cond, ◌&&◌, eqb, List, length, refl, sym, ap, ◌∙◌, arith, map}
use Rattle.std.specs.Int.{bit_at}
use Rattle.std.specs.List.{count_by, range_with_len}
use Rattle.std.proofs.lemmas.List.FromFn.{sum_by-map-range_with_len_more}
use Rattle.bit_rows.specs.Slices.{Slices}
use Rattle.bit_rows.specs.Words.{word_bit, IsTrimmed}
use Rattle.bit_rows.specs.Rows.{bits_of}
use Rattle.bit_rows.proofs.Counts.{count_row}
use Rattle.reduce_tree.specs.Tags.{places, is_tagged, is_selected, tags_in}
use Rattle.reduce_tree.proofs.Counting.{count_more}

-- the sum of the first n numbers
abbrev pub total : ℕ → (ℕ → ℕ) → ℕ
total zero f = 0
total (suc n) f = total n f + f n

pub total-same : (n : ℕ) (f g : ℕ → ℕ) → ((k : ℕ) → k < n → f k ≡ g k) → total n f ≡ total n g
total-same zero f g h = refl
total-same (suc n) f g h = let a = total-same n f g (λ k l. h k (omega arith)) in let b = h n (omega arith) in omega arith

total-cat : (a b : ℕ) (f : ℕ → ℕ) → total (a + b) f ≡ total a f + total b (λ k. f (a + k))
total-cat a zero f = let e : a + 0 ≡ a = omega arith in rw e (omega arith)
total-cat a (suc b) f = let e : a + suc b ≡ suc (a + b) = omega arith in let r = total-cat a b f in rw e (omega arith)

total-add : (n : ℕ) (f g : ℕ → ℕ) → total n (λ k. f k + g k) ≡ total n f + total n g
total-add zero f g = refl
total-add (suc n) f g = let r = total-add n f g in omega arith

pub total-zero : (n : ℕ) → total n (λ k. 0) ≡ 0
total-zero zero = refl
total-zero (suc n) = let r = total-zero n in omega arith

pub total-le : (n : ℕ) (p : ℕ → Bool) → total n (λ k. cond (p k) 1 0) ≤ n
total-le zero p = omega arith
total-le (suc n) p = let r = total-le n p in let b = one (p n) in omega arith
  where
    one : (b : Bool) → cond b 1 0 ≤ 1
    one true = omega arith
    one false = omega arith

-- the numbers below 32 c, column by column
total-lanes : (g : ℕ → ℕ → ℕ) (c : ℕ) → total (32 * c) (λ n. g (n % 32) (n / 32)) ≡ total c (λ col. total 32 (λ sub. g sub col))
total-lanes g zero = refl
total-lanes g (suc c) =
    let e : 32 * suc c ≡ 32 * c + 32 = omega arith in
    let r = total-lanes g c in
    let last : total 32 (λ k. g ((32 * c + k) % 32) ((32 * c + k) / 32)) ≡ total 32 (λ sub. g sub c) = total-same 32 (λ k. g ((32 * c + k) % 32) ((32 * c + k) / 32)) (λ sub. g sub c) (λ k l. let d : (32 * c + k) / 32 ≡ c = omega arith in let m : (32 * c + k) % 32 ≡ k = omega arith in rw (d, m) refl) in
    rw e (total-cat (32 * c) 32 (λ n. g (n % 32) (n / 32)) ∙ rw (r, last) refl)

-- the sums exchanged
total-turn : (g : ℕ → ℕ → ℕ) (c n : ℕ) → total c (λ col. total n (λ sub. g sub col)) ≡ total n (λ sub. total c (λ col. g sub col))
total-turn g zero n = sym (total-zero n)
total-turn g (suc c) n = let r = total-turn g c n in let a = total-add n (λ sub. total c (λ col. g sub col)) (λ sub. g sub c) in omega arith

-- a count as a sum
count-total : (p : ℕ → Bool) (n : ℕ) → count_by p (range_with_len 0 n) ≡ total n (λ k. cond (p k) 1 0)
count-total p zero = refl
count-total p (suc n) = let r = count-total p n in let m = count_more p n (suc n) (omega arith) in omega arith

-- how many tags of a subarray are set
abbrev pub tags_of : Slices → ℕ → ℕ
tags_of s sub = total s.columns (λ col. cond (s.tag sub col) 1 0)

-- the tags of the selected subarrays below n
abbrev pub tags_below : ℕ → Slices → ℕ → ℕ
tags_below subs s n = total n (λ sub. cond (eqb (bit_at subs sub) 1) (tags_of s sub) 0)

chosen : (c : ℕ) (b : Bool) (t : ℕ → Bool) → total c (λ col. cond (b && t col) 1 0) ≡ cond b (total c (λ col. cond (t col) 1 0)) 0
chosen c true t = refl
chosen c false t = total-zero c

pub tags_all : (subs : ℕ) (s : Slices) → tags_in subs s ≡ tags_below subs s 32
tags_all subs s =
    count-total (λ n. is_selected subs n && is_tagged s n) (places s)
    ∙ total-lanes (λ sub col. cond (eqb (bit_at subs sub) 1 && s.tag sub col) 1 0) s.columns
    ∙ total-turn (λ sub col. cond (eqb (bit_at subs sub) 1 && s.tag sub col) 1 0) s.columns 32
    ∙ total-same 32 (λ sub. total s.columns (λ col. cond (eqb (bit_at subs sub) 1 && s.tag sub col) 1 0)) (λ sub. cond (eqb (bit_at subs sub) 1) (tags_of s sub) 0) (λ sub l. chosen s.columns (eqb (bit_at subs sub) 1) (λ col. s.tag sub col))

-- the bits of a row of words
bits-total : (n : ℕ) (words : List ℕ) → count_by (λ bit. bit) (bits_of n words) ≡ total n (λ k. cond (word_bit words k) 1 0)
unfolding bits_of
bits-total zero words = refl
bits-total (suc n) words =
    let r = bits-total n words in
    let e : suc n ≡ n + 1 = omega arith in
    let m = sum_by-map-range_with_len_more (λ (x : Bool). cond x 1 0) (word_bit words) 0 n n (omega arith) in
    ap (λ t. count_by (λ bit. bit) (map (word_bit words) (range_with_len 0 t))) e ∙ m ∙ ap (λ t. t + cond (word_bit words n) 1 0) r

pub words_tags : (s : Slices) (sub : ℕ) (words : List ℕ) → length words ≡ (s.columns + 63) / 64 → ((k : ℕ) → k < s.columns → word_bit words k ≡ s.tag sub k) → IsTrimmed s.columns words
    → count_by (λ bit. bit) (bits_of (64 * length words) words) ≡ tags_of s sub
words_tags s sub words len bits past =
    count_row s.columns (length words) words words past (omega arith) (λ k. refl) ∙ bits-total s.columns words ∙ total-same s.columns (λ k. cond (word_bit words k) 1 0) (λ k. cond (s.tag sub k) 1 0) (λ k l. rw (bits k l) refl)

-- the next subarray is selected
pub below_more : (subs : ℕ) (s : Slices) (sub tags more : ℕ) → tags ≡ tags_below subs s sub → eqb (bit_at subs sub) 1 ≡ true → more ≡ tags_of s sub → tags + more ≡ tags_below subs s (sub + 1)
below_more subs s sub tags more p h q = let e : sub + 1 ≡ suc sub = omega arith in rw (e, h, p, q) refl

-- the next subarray is not selected
pub below_skip : (subs : ℕ) (s : Slices) (sub tags : ℕ) → tags ≡ tags_below subs s sub → eqb (bit_at subs sub) 1 ≡ false → tags ≡ tags_below subs s (sub + 1)
below_skip subs s sub tags p h = let e : sub + 1 ≡ suc sub = omega arith in rw (e, h, p) (omega arith)

-- a subarray has a tag for each column at most
pub tags_few : (s : Slices) (sub length : ℕ) → length ≡ (s.columns + 63) / 64 → length ≤ 32 → tags_of s sub ≤ 2048
tags_few s sub length e h = let l = total-le s.columns (λ col. s.tag sub col) in omega arith
