-- Bits of elements that are packed into a row.
use Rattle.std.proofs.Common.{◌≡◌, ℕ, ◌+◌, ◌-◌, ◌*◌, ◌/◌, ◌%◌, ◌^◌, ◌<◌, ◌≤◌, Bool, true, false, cond, ◌&&◌, eqb, leb, ltb, List, length, slice_index, slice_set, refl, ap, sym, ◌∙◌, arith, ⊎_elim, bit_or, bit_and, w32}
use Rattle.std.specs.Int.{bit_at, bit_not}
use Rattle.std.proofs.lemmas.Nat.{div-mul-add, mod-mul-add}
use Rattle.std.proofs.lemmas.Nat.Bits.{bit_at_set_same, bit_at_set_other, bit_at_clear_same, bit_at_clear_other}
use Rattle.std.proofs.lemmas.List.{get_or-set_same, get_or-set_other}
use Rattle.std.proofs.lemmas.Bool.{cases_eq, cases_lt, and_parts, ltb-true, eqb-true, le-leb, lt-leb, lt-ltb, le-ltb, eq-eqb, ne_eqb}
use Rattle.bit_rows.specs.Slices.{Slices, placed}
use Rattle.steer_net.specs.Network.{numbered, packed, is_packed, top_bit, bit_in, position}
use Rattle.steer_net.specs.Rows.{mask_bit}
use Rattle.steer_net.proofs.Parts.{same_slices}

-- a word of a row changes in one bit
put-word : (words : List ℕ) (n i word : ℕ) (bit : Bool) → n / 32 < length words → eqb (bit_at word (n % 32)) 1 ≡ bit
    → ((k : ℕ) → k < 32 → (k ≡ n % 32 → ⊥) → bit_at word k ≡ bit_at (slice_index words (n / 32)) k)
    → mask_bit (slice_set words (n / 32) word) i ≡ cond (eqb i n) bit (mask_bit words i)
put-word words n i word bit inside at others =
    ⊎_elim
    (λ (q : i / 32 ≡ n / 32). rw (q, get_or-set_same words (n / 32) word 0 inside) (⊎_elim
    (λ (r : i % 32 ≡ n % 32). let e : i ≡ n = omega arith in rw (r, eq-eqb i n e) at)
    (λ (r : i % 32 ≡ n % 32 → ⊥). rw (ne_eqb i n (λ e. r (ap (λ k. k % 32) e)), others (i % 32) (omega arith) r) refl) (cases_eq (i % 32) (n % 32))))
    (λ (q : i / 32 ≡ n / 32 → ⊥). rw (ne_eqb i n (λ e. q (ap (λ k. k / 32) e)), get_or-set_other words (n / 32) (i / 32) word 0 q) refl) (cases_eq (i / 32) (n / 32))

-- a bit is set
pub put_set : (words : List ℕ) (n i : ℕ) → n / 32 < length words
    → mask_bit (slice_set words (n / 32) (bit_or (slice_index words (n / 32)) (1 * 2 ^ (n % 32) % 2 ^ 32))) i ≡ cond (eqb i n) true (mask_bit words i)
put_set words n i inside =
    let h : n % 32 < 32 = omega arith in
    put-word words n i _ true inside (rw (bit_at_set_same w32 (slice_index words (n / 32)) (n % 32) h) refl)
    (λ k l ne. bit_at_set_other w32 (slice_index words (n / 32)) (n % 32) h k ne)

-- a bit is cleared
pub put_clear : (words : List ℕ) (n i : ℕ) → n / 32 < length words
    → mask_bit (slice_set words (n / 32) (bit_and (slice_index words (n / 32)) (bit_not w32 (1 * 2 ^ (n % 32) % 2 ^ 32)))) i ≡ cond (eqb i n) false (mask_bit words i)
put_clear words n i inside =
    let h : n % 32 < 32 = omega arith in
    put-word words n i _ false inside (rw (bit_at_clear_same w32 (slice_index words (n / 32)) (n % 32) h) refl)
    (λ k l ne. bit_at_clear_other w32 (slice_index words (n / 32)) (n % 32) h k l ne)

-- bit i of the row where the first elements are packed, `count` of them
abbrev pub is_chosen : (ℕ → Bool) → ℕ → ℕ → ℕ → Bool
is_chosen under first count i = leb first i && ltb (i - first) count && under (i - first)

abbrev pub packing : (ℕ → Bool) → (ℕ → Bool) → ℕ → ℕ → (ℕ → Bool) → ℕ → Bool
packing from under first count old i = cond (is_chosen under first count i) (from (i - first)) (old i)

-- no element is packed at first
pub packing-none : (from under : ℕ → Bool) (first : ℕ) (old : ℕ → Bool) (i : ℕ) → old i ≡ packing from under first 0 old i
packing-none from under first old i = rw (le-ltb (i - first) 0 (omega arith)) (none (leb first i))
  where
    none : (b : Bool) → old i ≡ cond (b && false && under (i - first)) (from (i - first)) (old i)
    none true = refl
    none false = refl

-- a number but the next element's is packed as before
packing-other : (from under : ℕ → Bool) (first k : ℕ) (old : ℕ → Bool) (i : ℕ) → (i ≡ first + k → ⊥) → packing from under first k old i ≡ packing from under first (k + 1) old i
packing-other from under first k old i ne =
    ⊎_elim
    (λ (l : i < first). rw (lt-leb first i l) refl)
    (λ (l : first ≤ i). ⊎_elim
    (λ (m : i - first < k). let n : i - first < k + 1 = omega arith in rw (lt-ltb (i - first) k m, lt-ltb (i - first) (k + 1) n) refl)
    (λ (m : k ≤ i - first). let n : k + 1 ≤ i - first = omega arith in rw (le-ltb (i - first) k m, le-ltb (i - first) (k + 1) n) refl) (cases_lt (i - first) k))
    (cases_lt i first)

-- the number of the next element
packing-at : (from under : ℕ → Bool) (first k : ℕ) (old : ℕ → Bool) → packing from under first (k + 1) old (first + k) ≡ cond (under k) (from k) (old (first + k))
packing-at from under first k old =
    let e : first + k - first ≡ k = omega arith in
    let l : first ≤ first + k = omega arith in
    let m : k < k + 1 = omega arith in
    rw (e, le-leb first (first + k) l, lt-ltb k (k + 1) m) refl

-- the next element is not packed
pub packing-skip : (from under : ℕ → Bool) (first k : ℕ) (old : ℕ → Bool) (i : ℕ) → under k ≡ false → packing from under first k old i ≡ packing from under first (k + 1) old i
packing-skip from under first k old i h =
    ⊎_elim
    (λ (q : i ≡ first + k). rw q (before ∙ sym (packing-at from under first k old ∙ rw h refl)))
    (λ (q : i ≡ first + k → ⊥). packing-other from under first k old i q) (cases_eq i (first + k))
  where
    before : packing from under first k old (first + k) ≡ old (first + k)
    before =
        let e : first + k - first ≡ k = omega arith in
        let l : first ≤ first + k = omega arith in
        rw (e, le-leb first (first + k) l, le-ltb k k (omega arith)) refl

-- the next element is packed
pub packing-more : (from under : ℕ → Bool) (first k : ℕ) (old : ℕ → Bool) (i : ℕ) (bit : Bool) → under k ≡ true → bit ≡ from k
    → cond (eqb i (first + k)) bit (packing from under first k old i) ≡ packing from under first (k + 1) old i
packing-more from under first k old i bit h e =
    ⊎_elim
    (λ (q : i ≡ first + k). rw (q, eq-eqb (first + k) (first + k) refl, packing-at from under first k old, h) e)
    (λ (q : i ≡ first + k → ⊥). rw (ne_eqb i (first + k) q) (packing-other from under first k old i q)) (cases_eq i (first + k))

-- a row by the bits that were packed
pub by_packed : (from under to width first : ℕ) (what : ℕ → Bool) (s : Slices)
    → ((i : ℕ) → i < 32 * s.columns → what i ≡ cond (is_packed under width first s i) (top_bit width s from (i - first)) (bit_in s to i))
    → numbered to 1 0 what s ≡ packed from under to width first s
by_packed from under to width first what s h =
    same_slices (numbered to 1 0 what s) (packed from under to width first s) refl
    (λ sub r col. at (eqb r to) (placed s.columns sub col) (is_packed under width first s (col * 32 + sub))
    (what (0 + position 1 sub col)) (top_bit width s from (col * 32 + sub - first)) (s.bit sub r col)
    (λ b p. let q = and_parts (ltb sub 32) (ltb col s.columns) p in one sub r col (ltb-true sub 32 q.0) (ltb-true col s.columns q.1) b))
    (λ sub col. refl) refl
  where
    at : (b p k x y o : Bool) → (b ≡ true → p ≡ true → x ≡ cond k y o) → cond b (cond p x o) o ≡ cond b (cond (p && k) y o) o
    at true true k x y o h = h refl refl
    at true false k x y o h = refl
    at false p k x y o h = refl

    one : (sub r col : ℕ) → sub < 32 → col < s.columns → eqb r to ≡ true
        → what (0 + position 1 sub col) ≡ cond (is_packed under width first s (col * 32 + sub)) (top_bit width s from (col * 32 + sub - first)) (s.bit sub r col)
    one sub r col l m b =
        let q : 0 + position 1 sub col ≡ col * 32 + sub = omega arith in
        let reach : col * 32 + sub < 32 * s.columns = omega arith in
        let old : bit_in s to (col * 32 + sub) ≡ s.bit sub to col =
        ap (λ k. s.bit k to ((col * 32 + sub) / 32)) (mod-mul-add col 32 sub l) ∙ ap (λ k. s.bit sub to k) (div-mul-add col 32 sub l) in
        rw (q, h (col * 32 + sub) reach)
        (ap (λ x. cond (is_packed under width first s (col * 32 + sub)) (top_bit width s from (col * 32 + sub - first)) x) (old ∙ ap (λ k. s.bit sub k col) (sym (eqb-true r to b))))
