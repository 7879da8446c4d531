-- A row that is packed subarray by subarray.
use Rattle.std.proofs.Common.{◌≡◌, ℕ, ◌+◌, ◌-◌, ◌*◌, ◌/◌, ◌%◌, ◌<◌, ◌≤◌, Bool, true, false, cond, not, ◌&&◌, eqb, leb, ltb, List, ◌++◌, length, drop, replicate, refl, ap, sym, ◌∙◌, arith, ⊎_elim}
use Rattle.std.proofs.lemmas.Bool.{cases_lt, cases_eq, and_parts, ltb-true, le-leb, lt-leb, lt-ltb, le-ltb, eq-eqb, ne_eqb}
use Rattle.std.proofs.lemmas.Nat.{div-mul-add, mod-mul-add}
use Rattle.std.proofs.Math.Nat.{mul-le-mul_left}
use Rattle.bit_rows.specs.Slices.{Slices, placed}
use Rattle.bit_rows.specs.Words.{word_bit, IsTrimmed}
use Rattle.bit_rows.proofs.Packed.{bit-replaced, zero_words}
use Rattle.steer_net.specs.Network.{position, is_width, is_packed, top_bit, bit_in}
use Rattle.steer_net.specs.Rows.{partly, spans, packed_bit}
use Rattle.steer_net.proofs.Parts.{joined, width-fills}

-- rows that are not the same
pub apart : (a b : ℕ) → not (eqb a b) ≡ true → a ≡ b → ⊥
apart a b h e = differ (sym (ap not (eq-eqb a b e)) ∙ h)
  where
    differ : false ≡ true → ⊥
    differ d = cc

-- one more subarray of a row
pub subarray_bits : (row at : ℕ) (words : List ℕ) (what : ℕ → Bool) (s : Slices) → ((c : ℕ) → word_bit words c ≡ (ltb c s.columns && what (c * 32 + at)))
    → partly (spans at (at + 1)) row (λ sub c. word_bit words c) (partly (spans 0 at) row (λ sub col. what (0 + position 1 sub col)) s)
    ≡ partly (spans 0 (at + 1)) row (λ sub col. what (0 + position 1 sub col)) s
subarray_bits row at words what s bits =
    joined (spans at (at + 1)) (spans 0 at) (spans 0 (at + 1)) row (λ sub c. word_bit words c) (λ sub col. what (0 + position 1 sub col)) (λ sub col. what (0 + position 1 sub col)) s (λ sub col o l m. one sub col o m)
  where
    one : (sub col : ℕ) (o : Bool) → col < s.columns → cond (leb at sub && ltb sub (at + 1)) (word_bit words col) (cond (leb 0 sub && ltb sub at) (what (0 + position 1 sub col)) o)
        ≡ cond (leb 0 sub && ltb sub (at + 1)) (what (0 + position 1 sub col)) o
    one sub col o c = rw (le-leb 0 sub (omega arith)) (⊎_elim
        (λ (l : sub < at). let m : sub < at + 1 = omega arith in rw (lt-leb at sub l, lt-ltb sub at l, lt-ltb sub (at + 1) m) refl)
        (λ (l : at ≤ sub). rw (le-leb at sub l, le-ltb sub at l) (⊎_elim
        (λ (m : sub < at + 1).
        let e : 0 + position 1 sub col ≡ col * 32 + at = omega arith in
        rw (lt-ltb sub (at + 1) m) (bits col ∙ rw (lt-ltb col s.columns c) (ap what (sym e))))
        (λ (m : at + 1 ≤ sub). rw (le-ltb sub (at + 1) m) refl) (cases_lt sub (at + 1)))) (cases_lt sub at))

-- a bit that is packed is the same while the row is partly written
pub packed_kept : (from under to width first sub c : ℕ) (new : ℕ → ℕ → Bool) (s : Slices) → (to ≡ from → ⊥) → (to ≡ under → ⊥) → sub < 32
    → packed_bit from under to width first (partly (spans 0 sub) to new s) (c * 32 + sub) ≡ packed_bit from under to width first s (c * 32 + sub)
packed_kept from under to width first sub c new s f u h =
    let a : under ≡ to → ⊥ = λ e. u (sym e) in
    let b : from ≡ to → ⊥ = λ e. f (sym e) in
    let m : (c * 32 + sub) % 32 ≡ sub = mod-mul-add c 32 sub h in
    let n : sub ≤ sub = omega arith in
    rw (ne_eqb under to a, ne_eqb from to b, eq-eqb to to refl, m, le-ltb sub sub n, le-leb 0 sub (omega arith))
    (ap (cond (is_packed under width first s (c * 32 + sub)) (top_bit width s from (c * 32 + sub - first))) (same (placed s.columns sub ((c * 32 + sub) / 32)) (s.bit sub to ((c * 32 + sub) / 32)) ∙ ap (λ k. s.bit k to ((c * 32 + sub) / 32)) (sym m)))
  where
    same : (p o : Bool) → cond p o o ≡ o
    same true o = refl
    same false o = refl

-- the bits below column i are made, and the others are as they were
pub record Replaced (what old : ℕ → Bool) (i : ℕ) (words : List ℕ) : Type 0 where
  pub done : (c : ℕ) → c < i → word_bit words c ≡ what c
  pub todo : (c : ℕ) → i ≤ c → word_bit words c ≡ old c

-- the column of a number of a row
pub column : (s : Slices) (row sub c : ℕ) → sub < 32 → bit_in s row (c * 32 + sub) ≡ s.bit sub row c
column s row sub c h = ap (λ k. s.bit k row ((c * 32 + sub) / 32)) (mod-mul-add c 32 sub h) ∙ ap (λ k. s.bit sub row k) (div-mul-add c 32 sub h)

-- a column that no element names keeps its bit
pub unnamed : (from under to width first sub c : ℕ) (s : Slices) → sub < 32 → is_packed under width first s (c * 32 + sub) ≡ false → s.bit sub to c ≡ packed_bit from under to width first s (c * 32 + sub)
unnamed from under to width first sub c s h e = sym (ap (λ b. cond b (top_bit width s from (c * 32 + sub - first)) (bit_in s to (c * 32 + sub))) e ∙ column s to sub c h)

pub before_named : (under width first sub c : ℕ) (s : Slices) → sub < 32 → c < first / 32 → is_packed under width first s (c * 32 + sub) ≡ false
before_named under width first sub c s h l = let m : c * 32 + sub < first = omega arith in rw (lt-leb first (c * 32 + sub) m) refl

pub past_named : (under width first sub c count : ℕ) (s : Slices) → count ≡ s.columns * (32 / width) → (first + count) / 32 + 1 ≤ c → is_packed under width first s (c * 32 + sub) ≡ false
past_named under width first sub c count s e l =
    let m : count ≤ c * 32 + sub - first = omega arith in
    let k : s.columns * (32 / width) ≤ c * 32 + sub - first = rw (← e) m in
    rw (le-ltb (c * 32 + sub - first) (s.columns * (32 / width)) k) (none (leb first (c * 32 + sub)))
  where
    none : (b : Bool) → b && false && top_bit width s under (c * 32 + sub - first) ≡ false
    none true = refl
    none false = refl

-- at first the words are the old ones
pub replaced_start : (from under to width first sub : ℕ) (s : Slices) (words : List ℕ) → sub < 32
    → ((c : ℕ) → word_bit words c ≡ (ltb c s.columns && s.bit sub to c))
    → Replaced (λ c. ltb c s.columns && packed_bit from under to width first s (c * 32 + sub)) (λ c. ltb c s.columns && s.bit sub to c) (first / 32) words
replaced_start from under to width first sub s words h bits = record {
  done = λ c l. bits c ∙ ap (λ b. ltb c s.columns && b) (unnamed from under to width first sub c s h (before_named under width first sub c s h l));
  todo = λ c l. bits c;
}

-- one column more
pub replaced_more : (from under to width first sub i : ℕ) (s : Slices) (words now : List ℕ) → sub < 32 → i < s.columns
    → Replaced (λ c. ltb c s.columns && packed_bit from under to width first s (c * 32 + sub)) (λ c. ltb c s.columns && s.bit sub to c) i words
    → ((c : ℕ) → word_bit now c ≡ cond (eqb c i && is_packed under width first s (i * 32 + sub)) (top_bit width s from (i * 32 + sub - first)) (word_bit words c))
    → Replaced (λ c. ltb c s.columns && packed_bit from under to width first s (c * 32 + sub)) (λ c. ltb c s.columns && s.bit sub to c) (i + 1) now
replaced_more from under to width first sub i s words now h m p bits = record {
  done = λ c l. bits c ∙ ⊎_elim
      (λ (q : c ≡ i). rw (q, eq-eqb i i refl, lt-ltb i s.columns m, p.todo i (omega arith), lt-ltb i s.columns m)
      (ap (cond (is_packed under width first s (i * 32 + sub)) (top_bit width s from (i * 32 + sub - first))) (sym (column s to sub i h))))
      (λ (q : c ≡ i → ⊥). rw (ne_eqb c i q) (p.done c (omega arith))) (cases_eq c i);
  todo = λ c l. let q : c ≡ i → ⊥ = omega arith in bits c ∙ rw (ne_eqb c i q) (p.todo c (omega arith));
}

-- all columns that elements name
pub replaced_all : (from under to width first sub i count : ℕ) (s : Slices) (words : List ℕ) → sub < 32 → count ≡ s.columns * (32 / width) → (i < s.columns → (first + count) / 32 + 1 ≤ i)
    → Replaced (λ c. ltb c s.columns && packed_bit from under to width first s (c * 32 + sub)) (λ c. ltb c s.columns && s.bit sub to c) i words
    → (c : ℕ) → word_bit words c ≡ (ltb c s.columns && packed_bit from under to width first s (c * 32 + sub))
replaced_all from under to width first sub i count s words h e far p c = ⊎_elim
    (λ (l : c < i). p.done c l)
    (λ (l : i ≤ c). p.todo c l ∙ ⊎_elim
    (λ (m : c < s.columns). ap (λ b. ltb c s.columns && b) (unnamed from under to width first sub c s h (past_named under width first sub c count s e (omega (arith, far (omega arith))))))
    (λ (m : s.columns ≤ c). rw (le-ltb c s.columns m) refl) (cases_lt c s.columns)) (cases_lt c i)

-- a row that was copied into words of zeros
pub copied : (n m none : ℕ) (row : List ℕ) (bit : ℕ → Bool) → none ≡ 0 → length row ≡ m → n ≤ 64 * m → ((c : ℕ) → c < n → word_bit row c ≡ bit c) → IsTrimmed n row
    → (c : ℕ) → word_bit (row ++ drop m (replicate 32 none)) c ≡ (ltb c n && bit c)
copied n m none row bit z e h bits past c =
    bit-replaced n m (replicate 32 none) row (λ k l. zero_words 32 none k z) h e c ∙ ⊎_elim
    (λ (l : c < n). rw (lt-ltb c n l) (bits c l))
    (λ (l : n ≤ c). rw (le-ltb c n l) (past c l)) (cases_lt c n)

-- a bit that an element names, and one that none names
pub named_bit : (k col : ℕ) (named x bit old new : Bool) → new ≡ cond (eqb k col) bit old → named ≡ true → bit ≡ x → new ≡ cond (eqb k col && named) x old
named_bit k col named x bit old new p n b = p ∙ rw (n, b) (at (eqb k col))
  where
    at : (e : Bool) → cond e x old ≡ cond (e && true) x old
    at true = refl
    at false = refl

pub unnamed_bit : (k col : ℕ) (named x old : Bool) → named ≡ false → old ≡ cond (eqb k col && named) x old
unnamed_bit k col named x old n = rw n (at (eqb k col))
  where
    at : (e : Bool) → old ≡ cond (e && false) x old
    at true = refl
    at false = refl

-- an element that counts lies in its row
pub named_below : (under width first n : ℕ) (s : Slices) → is_packed under width first s n ≡ true → n - first < s.columns * (32 / width)
named_below under width first n s e =
    let p = and_parts (leb first n && ltb (n - first) (s.columns * (32 / width))) (top_bit width s under (n - first)) e in
    ltb-true (n - first) (s.columns * (32 / width)) (and_parts (leb first n) (ltb (n - first) (s.columns * (32 / width))) p.0).1

-- its highest bit too
pub top_below : (width n p : ℕ) → is_width width ≡ true → p < n * (32 / width) → p * width + (width - 1) < 32 * n
top_below width n p w h =
    let f = width-fills width w in
    let m : width * (p + 1) ≤ width * (n * (32 / width)) = mul-le-mul_left width (omega arith) in
    let e : width * (n * (32 / width)) ≡ n * (32 / width * width) = grind arith in
    let k : n * (32 / width * width) ≡ n * 32 = ap (λ t. n * t) f.1 in
    let q : width * (p + 1) ≡ p * width + width = grind arith in
    let z : 0 < width = f.0 in
    omega arith
