-- Rows of packed bits.
use Rattle.std.proofs.Common.{◌≡◌, ℕ, ◌+◌, ◌*◌, ◌^◌, ◌/◌, ◌%◌, ◌-◌, ◌<◌, ◌≤◌, Bool, true, false, cond, not, ◌&&◌, ◌||◌, eqb, ltb, List, ◌++◌, length, get_or, set, map, take, drop, replicate, refl, ap, sym, ◌∙◌, arith, ⊎_elim, w64, nat_eq, bit_and, bit_or, slice_index, slice_set, Some, None, Option, IfSome, IfNone}
use Rattle.std.specs.List.{position}
use Rattle.std.specs.Int.{bit_at, bit_not}
use Rattle.std.proofs.lemmas.Bool.{cases_lt, cases_eq, eq-eqb, ne_eqb, lt-ltb, le-ltb}
use Rattle.std.proofs.lemmas.List.{ext_get_or, get_or-set_same, get_or-set_other, length-set, get_or_past, get_or-map, length-map, get_or_append_left, get_or-append_right, get_or-take, get_or-drop, length-take}
use Rattle.std.proofs.lemmas.List.FromFn.{get_or-map-range_with_len, length-map-range_with_len}
use Rattle.std.proofs.lemmas.Simd.{get_or-replicate, length-replicate}
use Rattle.std.proofs.lemmas.Nat.Bits.{shr_and_one, bit_at-zero, bit_at_ones, bit_at_ones_above, bit_at_and, bit_at-lt, bit_at_set_same, bit_at_set_other, bit_at_clear_same, bit_at_clear_other}
use Rattle.std.proofs.lemmas.Nat.{one_shl}
use Rattle.bit_rows.specs.Words.{word_bit, IsTrimmed}
use Rattle.bit_rows.specs.Rows.{zip_with, bits_of}
use Rattle.bit_rows.proofs.Rows.{length-zip_with, get_or-zip_with}
use Rattle.bit_rows.proofs.Rows.{first_set, none_set}
use mathlib.Core.Bool.{beq}

-- ---- the list of the bits
pub length-bits_of : (n : ℕ) (ws : List ℕ) → length (bits_of n ws) ≡ n
unfolding bits_of
length-bits_of n ws = length-map-range_with_len (word_bit ws) 0 n

pub get-bits_of : (n : ℕ) (ws : List ℕ) (k : ℕ) → k < n → get_or (bits_of n ws) k false ≡ word_bit ws k
unfolding bits_of
get-bits_of n ws k h = get_or-map-range_with_len (word_bit ws) 0 n k k false h (omega arith)

-- of a trimmed row each bit is that of its words
pub bit-trimmed : (n : ℕ) (ws : List ℕ) → IsTrimmed n ws → (k : ℕ) → get_or (bits_of n ws) k false ≡ word_bit ws k
bit-trimmed n ws t k = ⊎_elim
    (λ (h : k < n). get-bits_of n ws k h)
    (λ (h : n ≤ k). get_or_past (bits_of n ws) k false (rw (length-bits_of n ws) h) ∙ sym (t k h)) (cases_lt k n)

-- a list with the bits of the words
pub same_bits : (n : ℕ) (ws : List ℕ) (xs : List Bool) → length xs ≡ n → ((k : ℕ) → k < n → word_bit ws k ≡ get_or xs k false) → bits_of n ws ≡ xs
same_bits n ws xs e h =
    ext_get_or false (bits_of n ws) xs (length-bits_of n ws ∙ sym e)
    (λ k l. let m : k < n = rw (← length-bits_of n ws) l in get-bits_of n ws k m ∙ h k m)

-- ---- rows of one bit
repeated : (n : ℕ) (word : ℕ) (k : ℕ) → k / 64 < n → get_or (replicate n word) (k / 64) 0 ≡ word
repeated n word k h = get_or-replicate n (k / 64) word 0 h

pub zero_words : (n word k : ℕ) → word ≡ 0 → word_bit (replicate n word) k ≡ false
zero_words n word k z =
    let e : get_or (replicate n word) (k / 64) 0 ≡ 0 = ⊎_elim
    (λ (h : k / 64 < n). repeated n word k h ∙ z)
    (λ (h : n ≤ k / 64). get_or_past (replicate n word) (k / 64) 0 (rw (length-replicate n word) h)) (cases_lt (k / 64) n) in
    rw (e, bit_at-zero (k % 64)) refl

pub one_words : (n k : ℕ) → k < 64 * n → word_bit (replicate n 18446744073709551615) k ≡ true
one_words n k h =
    let e : get_or (replicate n 18446744073709551615) (k / 64) 0 ≡ 18446744073709551615 = repeated n 18446744073709551615 k (omega arith) in
    let b : bit_at 18446744073709551615 (k % 64) ≡ 1 = bit_at_ones 64 (k % 64) (omega arith) in
    rw (e, b) refl

pub same_row : (n : ℕ) (ws : List ℕ) (bit : Bool) → ((k : ℕ) → k < n → word_bit ws k ≡ bit) → bits_of n ws ≡ replicate n bit
same_row n ws bit h = same_bits n ws (replicate n bit) (length-replicate n bit) (λ k l. h k l ∙ sym (get_or-replicate n k bit false l))

-- ---- one bit
pub read_bit : (ws : List ℕ) (i : ℕ) → nat_eq (bit_and (get_or ws (i / 64) 0 / 2 ^ (i % 64)) 1) 1 ≡ word_bit ws i
read_bit ws i = rw (shr_and_one (get_or ws (i / 64) 0) (i % 64)) refl

put-word : (words : List ℕ) (n i word : ℕ) (bit : Bool) → n / 64 < length words → eqb (bit_at word (n % 64)) 1 ≡ bit
    → ((k : ℕ) → k < 64 → (k ≡ n % 64 → ⊥) → bit_at word k ≡ bit_at (slice_index words (n / 64)) k)
    → word_bit (slice_set words (n / 64) word) i ≡ cond (eqb i n) bit (word_bit words i)
put-word words n i word bit inside at others =
    ⊎_elim
    (λ (q : i / 64 ≡ n / 64). rw (q, get_or-set_same words (n / 64) word 0 inside) (⊎_elim
    (λ (r : i % 64 ≡ n % 64). let e : i ≡ n = omega arith in rw (r, eq-eqb i n e) at)
    (λ (r : i % 64 ≡ n % 64 → ⊥). rw (ne_eqb i n (λ e. r (ap (λ k. k % 64) e)), others (i % 64) (omega arith) r) refl) (cases_eq (i % 64) (n % 64))))
    (λ (q : i / 64 ≡ n / 64 → ⊥). rw (ne_eqb i n (λ e. q (ap (λ k. k / 64) e)), get_or-set_other words (n / 64) (i / 64) word 0 q) refl) (cases_eq (i / 64) (n / 64))

pub put_set : (words : List ℕ) (n i : ℕ) → n / 64 < length words
    → word_bit (slice_set words (n / 64) (bit_or (slice_index words (n / 64)) (1 * 2 ^ (n % 64) % 2 ^ 64))) i ≡ cond (eqb i n) true (word_bit words i)
put_set words n i inside =
    let h : n % 64 < 64 = omega arith in
    put-word words n i _ true inside (rw (bit_at_set_same w64 (slice_index words (n / 64)) (n % 64) h) refl)
    (λ k l ne. bit_at_set_other w64 (slice_index words (n / 64)) (n % 64) h k ne)

pub put_clear : (words : List ℕ) (n i : ℕ) → n / 64 < length words
    → word_bit (slice_set words (n / 64) (bit_and (slice_index words (n / 64)) (bit_not w64 (1 * 2 ^ (n % 64) % 2 ^ 64)))) i ≡ cond (eqb i n) false (word_bit words i)
put_clear words n i inside =
    let h : n % 64 < 64 = omega arith in
    put-word words n i _ false inside (rw (bit_at_clear_same w64 (slice_index words (n / 64)) (n % 64) h) refl)
    (λ k l ne. bit_at_clear_other w64 (slice_index words (n / 64)) (n % 64) h k l ne)

-- a row in which one bit was put
pub put_trimmed : (n i : ℕ) (bit : Bool) (ws new : List ℕ) → IsTrimmed n ws → i < n → ((k : ℕ) → word_bit new k ≡ cond (eqb k i) bit (word_bit ws k)) → IsTrimmed n new
put_trimmed n i bit ws new t h e k l = rw (e k, ne_eqb k i (λ q. absurd (omega arith))) (t k l)

pub put_row : (n i : ℕ) (bit : Bool) (ws new : List ℕ) → i < n → ((k : ℕ) → word_bit new k ≡ cond (eqb k i) bit (word_bit ws k)) → bits_of n new ≡ slice_set (bits_of n ws) i bit
put_row n i bit ws new h e = same_bits n new (slice_set (bits_of n ws) i bit) (length-set (bits_of n ws) i bit ∙ length-bits_of n ws)
    (λ k l. e k ∙ ⊎_elim
    (λ (q : k ≡ i). rw (q, eq-eqb i i refl) (sym (get_or-set_same (bits_of n ws) i bit false (rw (length-bits_of n ws) h))))
    (λ (q : k ≡ i → ⊥). rw (ne_eqb k i q) (sym (get_or-set_other (bits_of n ws) i k bit false q ∙ get-bits_of n ws k l))) (cases_eq k i))

-- ---- the first words of a row
pub bit-take : (n m : ℕ) (ws : List ℕ) → IsTrimmed n ws → n ≤ 64 * m → (k : ℕ) → word_bit (take m ws) k ≡ word_bit ws k
bit-take n m ws t h k = ⊎_elim
    (λ (l : k / 64 < m). rw (get_or-take m ws (k / 64) 0 l) refl)
    (λ (l : m ≤ k / 64). rw (get_or_past (take m ws) (k / 64) 0 (omega (arith, length-take m ws)), bit_at-zero (k % 64)) (sym (t k (omega arith)))) (cases_lt (k / 64) m)

-- the first words are replaced
pub bit-replaced : (n m : ℕ) (ws new : List ℕ) → IsTrimmed n ws → n ≤ 64 * m → length new ≡ m → (k : ℕ) → word_bit (new ++ drop m ws) k ≡ word_bit new k
bit-replaced n m ws new t h e k = ⊎_elim
    (λ (l : k / 64 < m). rw (get_or_append_left new (drop m ws) 0 (k / 64) (rw e l)) refl)
    (λ (l : m ≤ k / 64).
    let q : m + (k / 64 - m) ≡ k / 64 = omega arith in
    let old : word_bit ws k ≡ false = t k (omega arith) in
    rw (get_or-append_right new (drop m ws) m (k / 64) 0 e l, get_or-drop m ws (k / 64 - m) 0, q, get_or_past new (k / 64) 0 (rw e l), bit_at-zero (k % 64)) old) (cases_lt (k / 64) m)

-- two rows of one length
pub lens : (n o : ℕ) (ws os : List ℕ) (xs ys : List Bool) → bits_of n ws ≡ xs → bits_of o os ≡ ys → length xs ≡ length ys → n ≡ o
lens n o ws os xs ys p q e = sym (length-bits_of n ws) ∙ ap length p ∙ e ∙ sym (ap length q) ∙ length-bits_of o os

-- the first words become those of two rows taken together
pub zipped_row : (g : Bool → Bool → Bool) (n o m : ℕ) (ws os new : List ℕ) → g false false ≡ false → IsTrimmed n ws → IsTrimmed o os → n ≡ o → n ≤ 64 * m → length new ≡ m
    → ((k : ℕ) → word_bit new k ≡ g (word_bit (take m ws) k) (word_bit (take m os) k))
    → IsTrimmed n (new ++ drop m ws) × (bits_of n (new ++ drop m ws) ≡ zip_with g (bits_of n ws) (bits_of o os))
zipped_row g n o m ws os new none t u same h e bits = (λ k l. bit k ∙ rw (t k l, u k (omega arith)) none, row)
  where
    bit : (k : ℕ) → word_bit (new ++ drop m ws) k ≡ g (word_bit ws k) (word_bit os k)
    bit k = bit-replaced n m ws new t h e k ∙ bits k ∙ rw (bit-take n m ws t h k, bit-take o m os u (omega arith) k) refl

    len : length (bits_of n ws) ≡ length (bits_of o os)
    len = length-bits_of n ws ∙ same ∙ sym (length-bits_of o os)

    row : bits_of n (new ++ drop m ws) ≡ zip_with g (bits_of n ws) (bits_of o os)
    row = same_bits n (new ++ drop m ws) (zip_with g (bits_of n ws) (bits_of o os)) (length-zip_with g (bits_of n ws) (bits_of o os) len ∙ length-bits_of n ws)
        (λ k l. bit k ∙ sym (get_or-zip_with g (bits_of n ws) (bits_of o os) k len (rw (length-bits_of n ws) l)
        ∙ rw (get-bits_of n ws k l, get-bits_of o os k (omega arith)) refl))

-- the first words become those that stand in a list
pub replaced_row : (n m : ℕ) (ws new : List ℕ) (xs : List Bool) → IsTrimmed n ws → n ≤ 64 * m → length new ≡ m → length xs ≡ n
    → ((k : ℕ) → word_bit new k ≡ get_or xs k false) → IsTrimmed n (new ++ drop m ws) × (bits_of n (new ++ drop m ws) ≡ xs)
replaced_row n m ws new xs t h e len bits = (
  λ k l. bit-replaced n m ws new t h e k ∙ bits k ∙ get_or_past xs k false (rw len l),
  same_bits n (new ++ drop m ws) xs len (λ k l. bit-replaced n m ws new t h e k ∙ bits k),
)

-- ---- what stands past the row is cleared
pub full_trimmed : (n m : ℕ) (ws new : List ℕ) → IsTrimmed n ws → n ≤ 64 * m → length new ≡ m → (past : ℕ) → past ≡ 64 * m → IsTrimmed past (new ++ drop m ws)
full_trimmed n m ws new t h e past p k l = bit-replaced n m ws new t h e k ∙ rw (get_or_past new (k / 64) 0 (omega (arith, e)), bit_at-zero (k % 64)) refl

pub trimmed_by : (n : ℕ) (ws new : List ℕ) → ((k : ℕ) → word_bit new k ≡ ltb k n && word_bit ws k) → IsTrimmed n new
trimmed_by n ws new h k l = rw (h k, le-ltb k n l) refl

pub kept_by : (n : ℕ) (ws new : List ℕ) → ((k : ℕ) → word_bit new k ≡ ltb k n && word_bit ws k) → (k : ℕ) → k < n → word_bit new k ≡ word_bit ws k
kept_by n ws new h k l = rw (h k, lt-ltb k n l) refl

-- a word without its bits from `low` on
low-bit : (word low j : ℕ) → low < 64 → bit_at (bit_and word (1 * 2 ^ low % 18446744073709551616 - 1)) j ≡ cond (ltb j low) (bit_at word j) 0
low-bit word low j h =
    let e : 1 * 2 ^ low % 18446744073709551616 ≡ 2 ^ low = one_shl low 64 h in
    rw (e, bit_at_and word (2 ^ low - 1) j) (⊎_elim
    (λ (l : j < low). rw (bit_at_ones low j l, lt-ltb j low l) (let b = bit_at-lt word j in omega arith))
    (λ (l : low ≤ j). rw (bit_at_ones_above low j l, le-ltb j low l) (omega arith)) (cases_lt j low))

pub trim_word : (n : ℕ) (ws : List ℕ) → n / 64 < length ws → IsTrimmed (64 * ((n + 63) / 64)) ws → (k : ℕ)
    → word_bit (slice_set ws (n / 64) (bit_and (get_or ws (n / 64) 0) (1 * 2 ^ (n % 64) % 18446744073709551616 - 1))) k ≡ ltb k n && word_bit ws k
trim_word n ws inside t k = ⊎_elim
    (λ (q : k / 64 ≡ n / 64). rw (q, get_or-set_same ws (n / 64) (bit_and (get_or ws (n / 64) 0) (1 * 2 ^ (n % 64) % 18446744073709551616 - 1)) 0 inside, low-bit (get_or ws (n / 64) 0) (n % 64) (k % 64) (omega arith)) (⊎_elim
    (λ (l : k < n). let m : k % 64 < n % 64 = omega arith in rw (lt-ltb k n l, lt-ltb (k % 64) (n % 64) m) refl)
    (λ (l : n ≤ k). let m : n % 64 ≤ k % 64 = omega arith in rw (le-ltb k n l, le-ltb (k % 64) (n % 64) m) refl) (cases_lt k n)))
    (λ (q : k / 64 ≡ n / 64 → ⊥). rw (get_or-set_other ws (n / 64) (k / 64) (bit_and (get_or ws (n / 64) 0) (1 * 2 ^ (n % 64) % 18446744073709551616 - 1)) 0 q) (⊎_elim
    (λ (l : k < n). rw (lt-ltb k n l) refl)
    (λ (l : n ≤ k). let past : 64 * ((n + 63) / 64) ≤ k = past-word q l in rw (le-ltb k n l) (t k past)) (cases_lt k n))) (cases_eq (k / 64) (n / 64))
  where
    past-word : (k / 64 ≡ n / 64 → ⊥) → n ≤ k → 64 * ((n + 63) / 64) ≤ k
    past-word q l = ⊎_elim
        (λ (x : n / 64 < k / 64). omega arith)
        (λ (x : k / 64 ≤ n / 64). let y : k / 64 ≡ n / 64 = omega arith in absurd (q y)) (cases_lt (n / 64) (k / 64))

-- ---- flipped words
pub flipped_row : (n m : ℕ) (ws flip new : List ℕ) → IsTrimmed n ws → n ≤ 64 * m → m ≤ length ws → length flip ≡ m
    → ((k : ℕ) → k < 64 * length (take m ws) → word_bit flip k ≡ not (word_bit (take m ws) k))
    → ((k : ℕ) → word_bit new k ≡ ltb k n && word_bit (flip ++ drop m ws) k) → bits_of n new ≡ map not (bits_of n ws)
flipped_row n m ws flip new t h room len p e = same_bits n new (map not (bits_of n ws)) (length-map (bits_of n ws) not ∙ length-bits_of n ws)
    (λ k l. kept_by n (flip ++ drop m ws) new e k l ∙ bit-replaced n m ws flip t h len k ∙ p k (omega (arith, length-take m ws)) ∙ rw (bit-take n m ws t h k) refl
    ∙ sym (get_or-map not (bits_of n ws) k false false (rw (length-bits_of n ws) l) ∙ ap not (get-bits_of n ws k l)))

-- ---- matched words
pub matched_row : (g : Bool → Bool) (n o m : ℕ) (ws os made new : List ℕ) → IsTrimmed n ws → IsTrimmed o os → n ≡ o → n ≤ 64 * m → m ≤ length ws → length made ≡ m
    → ((k : ℕ) → k < 64 * length (take m ws) → word_bit made k ≡ g (word_bit (take m os) k))
    → ((k : ℕ) → word_bit new k ≡ ltb k n && word_bit (made ++ drop m ws) k) → bits_of n new ≡ map g (bits_of o os)
matched_row g n o m ws os made new t u same h room len p e = same_bits n new (map g (bits_of o os)) (length-map (bits_of o os) g ∙ length-bits_of o os ∙ sym same)
    (λ k l. kept_by n (made ++ drop m ws) new e k l ∙ bit-replaced n m ws made t h len k ∙ p k (omega (arith, length-take m ws)) ∙ rw (bit-take o m os u (omega arith) k) refl
    ∙ sym (get_or-map g (bits_of o os) k false false (rw (length-bits_of o os) (omega arith)) ∙ ap g (get-bits_of o os k (omega arith))))

-- a place of a row of zeros, or past it
pub get_or_false : (n k : ℕ) → get_or (replicate n false) k false ≡ false
get_or_false n k = ⊎_elim
    (λ (h : k < n). get_or-replicate n k false false h)
    (λ (h : n ≤ k). get_or_past (replicate n false) k false (rw (length-replicate n false) h)) (cases_lt k n)

-- a bit that is written where another one is set
pub set_where : (x y bit : Bool) → bit ≡ true → x || y ≡ cond y bit x
set_where true true bit e = sym e
set_where true false bit e = refl
set_where false true bit e = sym e
set_where false false bit e = refl

pub clear_where : (x y bit : Bool) → bit ≡ false → x && beq y false ≡ cond y bit x
clear_where true true bit e = sym e
clear_where true false bit e = refl
clear_where false true bit e = sym e
clear_where false false bit e = refl

-- ---- the first place
pub no_place : (n : ℕ) (ws : List ℕ) → ((k : ℕ) → word_bit ws k ≡ false) → None ≡ position (λ bit. bit) (bits_of n ws)
no_place n ws h = none_set (bits_of n ws) (λ k m. let q : k < n = rw (← length-bits_of n ws) m in get-bits_of n ws k q ∙ h k)

pub first_place : (n i : ℕ) (ws : List ℕ) → IsTrimmed n ws → word_bit ws i ≡ true → ((k : ℕ) → k < i → word_bit ws k ≡ false) → Some i ≡ position (λ bit. bit) (bits_of n ws)
first_place n i ws t set h =
    let inside : i < n = ⊎_elim (λ (l : i < n). l) (λ (l : n ≤ i). absurd (differ (sym set ∙ t i l))) (cases_lt i n) in
    first_set (bits_of n ws) i (rw (length-bits_of n ws) inside) (λ k l. get-bits_of n ws k (omega arith) ∙ h k l) (get-bits_of n ws i inside ∙ set)
  where
    differ : true ≡ false → ⊥
    differ e = cc

pub first_row : (n : ℕ) (r : Option ℕ) (ws os : List ℕ) → IsTrimmed n ws → IfSome r (λ i. word_bit os i ≡ true) → IfSome r (λ i. (k : ℕ) → k < i → word_bit os k ≡ false) → IfNone r ((k : ℕ) → word_bit os k ≡ false)
    → ((k : ℕ) → word_bit os k ≡ word_bit ws k) → r ≡ position (λ bit. bit) (bits_of n ws)
first_row n (Some i) ws os t set first none same = first_place n i ws t (sym (same i) ∙ set) (λ k l. sym (same k) ∙ first k l)
first_row n None ws os t set first none same = no_place n ws (λ k. sym (same k) ∙ none k)
