-- Rows that are written for some subarrays.
use Rattle.std.proofs.Common.{◌≡◌, ℕ, ◌+◌, ◌*◌, ◌/◌, ◌%◌, ◌^◌, ◌<◌, ◌≤◌, Bool, true, false, cond, ◌&&◌, eqb, ltb, leb, List, [], length, get_or, refl, ap, sym, ◌∙◌, arith, ⊎_elim}
use Rattle.std.proofs.lemmas.Bool.{cases_lt, cases_eq, ltb-true, and_parts, lt-ltb, le-ltb, le-leb, lt-leb, eq-eqb, ne_eqb}
use Rattle.bit_laws.specs.Numbers.{bit_of}
use Rattle.bit_laws.specs.Lists.{tabulate}
use Rattle.bit_laws.proofs.Numbers.{number-same, number-bits}
use Rattle.bit_laws.proofs.Lists.{tabulate-same}
use Rattle.bit_rows.specs.Slices.{Slices, placed, words_written}
use Rattle.bit_rows.specs.Words.{word_bit}
use Rattle.cam_chain.specs.Views.{KeepsRest, register_byte, register_of, registers_of}
use Rattle.cam_chain.specs.ChainValue.{ChainValue, slices_of}
use Rattle.cam_chain.specs.declared.counts.Counts.{Counts}
use Rattle.cam_chain.proofs.SlicesLemmas.{same_slices, columns-slices_of}
use Rattle.cam_chain.proofs.Registers.{length-registers_of, byte-here, are-registers_of}
use Rattle.element_ops.specs.Elements.{with_bytes, byte_at}
use Rattle.register_bytes.specs.Registers.{with_register}
use Rattle.register_bytes.specs.Rows.{bits_written}

-- the guards of a written bit
abbrev guarded : (e p t : Bool) → (x y : Bool) → Bool
guarded e p t x y = cond e (cond p (cond t x y) y) y

same-guarded : (e p t : Bool) (x y z : Bool) → (e ≡ true → p ≡ true → t ≡ true → x ≡ y) → guarded e p t x z ≡ guarded e p t y z
same-guarded true true true x y z same = same refl refl refl
same-guarded true true false x y z same = refl
same-guarded true false t x y z same = refl
same-guarded false p t x y z same = refl

-- no subarray
pub bits-none : (from row : ℕ) (what : ℕ → ℕ → Bool) (s : Slices) → s ≡ bits_written from from row what s
unfolding bits_written
bits-none from row what s = same_slices s (bits_written from from row what s) refl
    (λ sub r col. none sub (eqb r row) (placed s.columns sub col) (what sub col) (s.bit sub r col)) (λ sub col. refl) refl
  where
    none : (sub : ℕ) (e p x y : Bool) → y ≡ guarded e p (leb from sub && ltb sub from) x y
    none sub e p x y = ⊎_elim
        (λ (l : sub < from). rw (lt-leb from sub l) (stays e p))
        (λ (l : from ≤ sub). rw (le-leb from sub l, le-ltb sub from l) (stays e p)) (cases_lt sub from)
      where
        stays : (e p : Bool) → y ≡ guarded e p false x y
        stays true true = refl
        stays true false = refl
        stays false p = refl

-- one subarray more
pub bits-more : (from at row : ℕ) (words : List ℕ) (what : ℕ → ℕ → Bool) (s : Slices) → from ≤ at → ((col : ℕ) → col < s.columns → word_bit words col ≡ what at col)
    → words_written at row words (bits_written from at row what s) ≡ bits_written from (at + 1) row what s
unfolding bits_written
bits-more from at row words what s order bits = same_slices (words_written at row words (bits_written from at row what s)) (bits_written from (at + 1) row what s) refl
    (λ sub r col. more sub col (eqb r row) (placed s.columns sub col) (s.bit sub r col) (λ p. ltb-true col s.columns (and_parts (ltb sub 32) (ltb col s.columns) p).1))
    (λ sub col. refl) refl
  where
    more : (sub col : ℕ) (e p y : Bool) → (p ≡ true → col < s.columns)
        → guarded e p (eqb sub at) (word_bit words col) (guarded e p (leb from sub && ltb sub at) (what sub col) y) ≡ guarded e p (leb from sub && ltb sub (at + 1)) (what sub col) y
    more sub col false p y inside = refl
    more sub col true false y inside = refl
    more sub col true true y inside = ⊎_elim
        (λ (q : sub ≡ at). rw (q, eq-eqb at at refl, le-leb from at order, lt-ltb at (at + 1) (omega arith)) (bits col (inside refl)))
        (λ (q : sub ≡ at → ⊥). rw (ne_eqb sub at q) (⊎_elim
        (λ (l : sub < at). rw (lt-ltb sub at l, lt-ltb sub (at + 1) (omega arith)) refl)
        (λ (l : at ≤ sub). rw (le-ltb sub at l, le-ltb sub (at + 1) (omega arith)) refl) (cases_lt sub at))) (cases_eq sub at)

-- the next subarrays, whose bits may be told in another way
pub bits-joined : (mid to row : ℕ) (what more : ℕ → ℕ → Bool) (s : Slices) → mid ≤ to
    → ((sub col : ℕ) → mid ≤ sub → sub < to → col < s.columns → more sub col ≡ what sub col)
    → bits_written mid to row more (bits_written 0 mid row what s) ≡ bits_written 0 to row what s
unfolding bits_written
bits-joined mid to row what more s order same = same_slices (bits_written mid to row more (bits_written 0 mid row what s)) (bits_written 0 to row what s) refl
    (λ sub r col. both sub col (eqb r row) (placed s.columns sub col) (s.bit sub r col) (λ p. ltb-true col s.columns (and_parts (ltb sub 32) (ltb col s.columns) p).1))
    (λ sub col. refl) refl
  where
    both : (sub col : ℕ) (e p y : Bool) → (p ≡ true → col < s.columns)
        → guarded e p (leb mid sub && ltb sub to) (more sub col) (guarded e p (leb 0 sub && ltb sub mid) (what sub col) y) ≡ guarded e p (leb 0 sub && ltb sub to) (what sub col) y
    both sub col false p y inside = refl
    both sub col true false y inside = refl
    both sub col true true y inside = rw (le-leb 0 sub (omega arith)) (⊎_elim
        (λ (l : sub < mid). rw (lt-leb mid sub l, lt-ltb sub mid l, lt-ltb sub to (omega arith)) refl)
        (λ (l : mid ≤ sub). rw (le-leb mid sub l, le-ltb sub mid l) (⊎_elim
        (λ (m : sub < to). rw (lt-ltb sub to m) (same sub col l m (inside refl)))
        (λ (m : to ≤ sub). rw (le-ltb sub to m) refl) (cases_lt sub to))) (cases_lt sub mid))

-- the bits of bytes
abbrev pub bit_of_bytes : List ℕ → ℕ → ℕ → Bool
bit_of_bytes bytes sub col = bit_of (get_or bytes (4 * col + sub / 8) 0) (sub % 8)

-- all else stays
pub rest-stays : (row : ℕ) (what : ℕ → ℕ → Bool) (s : Slices) → row < 32 → KeepsRest s (bits_written 0 32 row what s)
unfolding bits_written
rest-stays row what s inside = record {
  columns = refl;
  tags = λ sub col. refl;
  num = refl;
  rows = λ sub r col above. let apart : r ≡ row → ⊥ = omega arith in rw (ne_eqb r row apart) refl;
}

columns-after : (row : ℕ) (what : ℕ → ℕ → Bool) (s : Slices) → (bits_written 0 32 row what s).columns ≡ s.columns
unfolding bits_written
columns-after row what s = refl

-- a byte of the registers
byte-after : (row : ℕ) (bytes : List ℕ) (s : Slices) (q j : ℕ) → ((k : ℕ) → get_or bytes k 0 < 2 ^ 8) → j < 4 * s.columns
    → register_byte (bits_written 0 32 row (bit_of_bytes bytes) s) q j ≡ cond (eqb q row) (get_or bytes j 0) (register_byte s q j)
unfolding bits_written
byte-after row bytes s q j small inside = ⊎_elim
    (λ (e : q ≡ row). rw (e, eq-eqb row row refl)
    (number-same 8 (λ b. guarded true (placed s.columns (8 * (j % 4) + b) (j / 4)) (leb 0 (8 * (j % 4) + b) && ltb (8 * (j % 4) + b) 32) (bit_of_bytes bytes (8 * (j % 4) + b) (j / 4)) (s.bit (8 * (j % 4) + b) row (j / 4))) (bit_of (get_or bytes j 0)) (λ b below.
    let sub : 8 * (j % 4) + b < 32 = omega arith in
    let col : j / 4 < s.columns = omega arith in
    let byte : 4 * (j / 4) + (8 * (j % 4) + b) / 8 ≡ j = omega arith in
    let bit : (8 * (j % 4) + b) % 8 ≡ b = omega arith in
    rw (lt-ltb (8 * (j % 4) + b) 32 sub, lt-ltb (j / 4) s.columns col, le-leb 0 (8 * (j % 4) + b) (omega arith), byte, bit) refl)
    ∙ number-bits 8 (get_or bytes j 0) ∙ lowest (get_or bytes j 0) (small j)))
    (λ (e : q ≡ row → ⊥). rw (ne_eqb q row e) refl) (cases_eq q row)
  where
    lowest : (x : ℕ) → x < 2 ^ 8 → x % 2 ^ 8 ≡ x
    lowest x l = omega arith

pub register-written : (row : ℕ) (bytes : List ℕ) (s : Slices) → ((k : ℕ) → get_or bytes k 0 < 2 ^ 8)
    → registers_of (bits_written 0 32 row (bit_of_bytes bytes) s) ≡ with_register (registers_of s) row bytes
unfolding registers_of with_register with_bytes
register-written row bytes s small =
    let v = registers_of s in
    let t = bits_written 0 32 row (bit_of_bytes bytes) s in
    let count : length v ≡ 32 = length-registers_of s in
    let wide : t.columns ≡ s.columns = columns-after row (bit_of_bytes bytes) s in
    rw count (tabulate-same 32 (register_of t) (λ q. tabulate (length (get_or v q [])) (λ j. cond (eqb q row) (get_or bytes j 0) (byte_at v q j))) (λ q inside.
    let long : length (get_or v q []) ≡ 4 * s.columns = (are-registers_of s).sizes q inside in
    rw (long, wide) (tabulate-same (4 * s.columns) (register_byte t q) (λ j. cond (eqb q row) (get_or bytes j 0) (byte_at v q j)) (λ j within.
    byte-after row bytes s q j small within ∙ rw (byte-here s q j inside within) refl))))

-- ---- as the code says it

pub bits-start : (from to row : ℕ) (what : ℕ → ℕ → Bool) (s : Slices) → to ≡ from → s ≡ bits_written from to row what s
bits-start from to row what s none = rw none (bits-none from row what s)

-- one lane more
pub lane-more : (place row : ℕ) (lane bytes : List ℕ) (s t u : Slices) → t ≡ bits_written 0 (8 * place) row (bit_of_bytes bytes) s
    → u ≡ bits_written (8 * place) (8 * place + 8) row (λ sub c. bit_of (get_or lane c 0) (sub % 8)) t
    → ((c : ℕ) → c < s.columns → get_or lane c 0 ≡ get_or bytes (4 * c + place) 0)
    → u ≡ bits_written 0 (8 * (place + 1)) row (bit_of_bytes bytes) s
lane-more place row lane bytes s t u before made gathered =
    let e : 8 * (place + 1) ≡ 8 * place + 8 = omega arith in
    made ∙ rw (before, e) (bits-joined (8 * place) (8 * place + 8) row (bit_of_bytes bytes) (λ sub c. bit_of (get_or lane c 0) (sub % 8)) s (omega arith) (λ sub col low high inside.
    let q : sub / 8 ≡ place = omega arith in
    rw q (ap (λ (x : ℕ). bit_of x (sub % 8)) (gathered col inside))))

pub lanes-all : (place row : ℕ) (bytes : List ℕ) (s t : Slices) → place ≡ 4 → row < 32 → ((k : ℕ) → get_or bytes k 0 < 2 ^ 8) → t ≡ bits_written 0 (8 * place) row (bit_of_bytes bytes) s
    → (registers_of t ≡ with_register (registers_of s) row bytes) × KeepsRest s t
lanes-all place row bytes s t all inside small made = rw (made, all) (register-written row bytes s small, rest-stays row (bit_of_bytes bytes) s inside)

-- one subarray more of a lane
pub subarray-more : (from bit row : ℕ) (words : List ℕ) (what : ℕ → ℕ → Bool) (s t u : Slices) → t ≡ bits_written from (from + bit) row what s
    → u ≡ words_written (from + bit) row words t → ((col : ℕ) → word_bit words col ≡ what (from + bit) col) → u ≡ bits_written from (from + (bit + 1)) row what s
subarray-more from bit row words what s t u before made bits =
    let e : from + (bit + 1) ≡ from + bit + 1 = omega arith in
    made ∙ rw (before, e) (bits-more from (from + bit) row words what s (omega arith) (λ col inside. bits col))

-- a row that is written leaves the columns and the counts
pub columns-stay : (v w : ChainValue) (at row : ℕ) (words : List ℕ) → slices_of w ≡ words_written at row words (slices_of v) → w.columns ≡ v.columns
columns-stay v w at row words e = sym (columns-slices_of w) ∙ ap (λ (s : Slices). s.columns) e ∙ columns-slices_of v

pub counts-stay : (a b : Counts) → a.searches ≡ b.searches → a.updates ≡ b.updates → a.passes ≡ b.passes → a ≡ b
counts-stay a b p q r = λ i. record { searches = p i; updates = q i; passes = r i }
