-- Elements of registers in the words of a chain.
use Rattle.std.proofs.Common.{◌≡◌, ℕ, zero, suc, ◌+◌, ◌-◌, ◌*◌, ◌/◌, ◌%◌, ◌^◌, ◌<◌, ◌≤◌, Bool, true, false, cond, ◌&&◌, eqb, List, [], length, get_or, leb, refl, sym, ◌∙◌, ap, arith, ◌⊎◌, inl, inr, ⊎_elim}
use Rattle.std.proofs.lemmas.Bool.{cases_lt, cases_eq, eq-eqb, ne_eqb, lt-ltb, le-leb, lt-leb}
use Rattle.std.proofs.lemmas.Nat.{div-mul-add, mod-mul-add, div-add-mod', pow_pos, shr-shr}
use Rattle.std.proofs.lemmas.Nat.Bits.{bit_at_cat_low, bit_at_cat_high}
use Rattle.std.proofs.lemmas.List.{get_or_past}
use Rattle.std.proofs.Math.Nat.{mod-lt, div-lt_iff_lt-mul}
use Rattle.bit_laws.specs.Numbers.{number, bit_of, byte_of}
use Rattle.bit_laws.specs.Lists.{tabulate}
use Rattle.bit_laws.proofs.Numbers.{number-lt, number-same, bit-number, number-bits, bit-down, little-same}
use Rattle.bit_laws.proofs.Lists.{length-tabulate, get-tabulate, tabulate-same}
use Rattle.bit_rows.specs.Slices.{Slices, placed}
use Rattle.cam_chain.specs.Slices.{word_written}
use Rattle.cam_chain.specs.Views.{register_byte, register_of, registers_of, KeepsRest}
use Rattle.element_ops.specs.Elements.{IsSize, AreRegisters, byte_at, group_byte, element_of, mask_bit_of, with_element, with_bytes, place_in_group}
use Rattle.element_ops.proofs.Bytes.{byte-bits, little-bytes}

-- ---- the registers that slices hold

pub length-registers_of : (s : Slices) → length (registers_of s) ≡ 32
unfolding registers_of
length-registers_of s = length-tabulate 32 (register_of s)

pub register-here : (s : Slices) (r : ℕ) → r < 32 → get_or (registers_of s) r [] ≡ register_of s r
unfolding registers_of
register-here s r inside = get-tabulate 32 (register_of s) r [] inside

pub byte-here : (s : Slices) (r j : ℕ) → r < 32 → j < 4 * s.columns → byte_at (registers_of s) r j ≡ register_byte s r j
byte-here s r j register inside =
    ap (λ (bytes : List ℕ). get_or bytes j 0) (register-here s r register)
    ∙ get-tabulate (4 * s.columns) (register_byte s r) j 0 inside

pub are-registers_of : (s : Slices) → AreRegisters (4 * s.columns) (registers_of s)
are-registers_of s = record {
  count = length-registers_of s;
  sizes = λ r inside. ap (λ (bytes : List ℕ). length bytes) (register-here s r inside) ∙ length-tabulate (4 * s.columns) (register_byte s r);
  bytes = λ r j.
      ⊎_elim
      (λ (register : r < 32).
      ⊎_elim
      (λ (within : j < 4 * s.columns). rw (byte-here s r j register within) (number-lt 8 (λ b. s.bit (8 * (j % 4) + b) r (j / 4))))
      (λ (past : 4 * s.columns ≤ j).
      let short : length (register_of s r) ≤ j = omega (arith, length-tabulate (4 * s.columns) (register_byte s r)) in
      rw (register-here s r register, get_or_past (register_of s r) j 0 short) (omega arith))
      (cases_lt j (4 * s.columns)))
      (λ (past : 32 ≤ r).
      let short : length (registers_of s) ≤ r = omega (arith, length-registers_of s) in
      rw (get_or_past (registers_of s) r [] short) (omega arith))
      (cases_lt r 32);
}

-- a bit of v0
pub mask-here : (s : Slices) (e : ℕ) → e < 32 * s.columns → s.bit (e % 32) 0 (e / 32) ≡ mask_bit_of (registers_of s) 0 e
mask-here s e inside =
    let within : e / 8 < 4 * s.columns = omega arith in
    let low : e % 8 < 8 = mod-lt e (omega arith) in
    let column : e / 8 / 4 ≡ e / 32 = omega arith in
    let sub : 8 * (e / 8 % 4) + e % 8 ≡ e % 32 = omega arith in
    sym (rw (byte-here s 0 (e / 8) (omega arith) within) (bit-number 8 (λ b. s.bit (8 * (e / 8 % 4) + b) 0 (e / 8 / 4)) (e % 8) low ∙ rw (column, sub) refl))

-- ---- places

-- a number and its quotient and rest
split-at : (d n m t : ℕ) → d * n + m ≡ t → m < n → (t / n ≡ d) × (t % n ≡ m)
split-at d n m t e below = rw (← e) (div-mul-add d n m below, mod-mul-add d n m below)

-- byte t of n words a register: its register, its column and its place there
pub word-parts : (n t : ℕ) → 0 < n → (t / (4 * n) ≡ t / 4 / n) × (t % (4 * n) / 4 ≡ t / 4 % n) × (t % (4 * n) % 4 ≡ t % 4)
word-parts n t some =
    let q = t / 4 in
    let rest : q % n < n = mod-lt q some in
    let inner : 4 * (q % n) + t % 4 < 4 * n = omega arith in
    let both = split-at (q / n) (4 * n) (4 * (q % n) + t % 4) t (whole (q / n) (q % n) (div-add-mod' q n)) inner in
    (both.0, rw both.1 (omega arith), rw both.1 (omega arith))
  where
    whole : (d m : ℕ) → d * n + m ≡ t / 4 → d * (4 * n) + (4 * m + t % 4) ≡ t
    whole d m e = omega arith

-- an element of 1, 2 or 4 bytes lies in one word
pub in_word : (size at : ℕ) → IsSize size → at * size % 4 + size ≤ 4
in_word size at is =
    ⊎_elim (λ (e : size ≡ 1). rw e (omega arith)) (λ (other : (size ≡ 2) ⊎ (size ≡ 4)).
    ⊎_elim (λ (e : size ≡ 2). rw e (omega arith)) (λ (e : size ≡ 4). rw e (omega arith)) other) is

-- the bytes of an element
slot-inside : (size at p : ℕ) → IsSize size → p / 4 ≡ at * size / 4 → at * size % 4 ≤ p % 4 → p % 4 < at * size % 4 + size → (p / size ≡ at) × (p % size ≡ p % 4 - at * size % 4)
slot-inside size at p is =
    ⊎_elim (λ (e : size ≡ 1). rw e (λ w l u. (omega arith, omega arith))) (λ (other : (size ≡ 2) ⊎ (size ≡ 4)).
    ⊎_elim (λ (e : size ≡ 2). rw e (λ w l u. (omega arith, omega arith))) (λ (e : size ≡ 4). rw e (λ w l u. (omega arith, omega arith))) other) is

slot-word : (size at p : ℕ) → IsSize size → p / size ≡ at → (p / 4 ≡ at * size / 4) × (at * size % 4 ≤ p % 4) × (p % 4 < at * size % 4 + size)
slot-word size at p is =
    ⊎_elim (λ (e : size ≡ 1). rw e (λ w. (omega arith, omega arith, omega arith))) (λ (other : (size ≡ 2) ⊎ (size ≡ 4)).
    ⊎_elim (λ (e : size ≡ 2). rw e (λ w. (omega arith, omega arith, omega arith))) (λ (e : size ≡ 4). rw e (λ w. (omega arith, omega arith, omega arith))) other) is

-- ---- a part of a word

-- the word with a part in the place of its own
abbrev pub put_word : (word from size value : ℕ) → ℕ
put_word word from size value = word % 2 ^ (8 * from) + (value % 2 ^ (8 * size) + word / 2 ^ (8 * (from + size)) * 2 ^ (8 * size)) * 2 ^ (8 * from)

-- a bit of a number cut to k bits
bit-cut : (x k i : ℕ) → i < k → bit_of (x % 2 ^ k) i ≡ bit_of x i
bit-cut x k i below = ap (λ (z : ℕ). bit_of z i) (sym (number-bits k x)) ∙ bit-number k (bit_of x) i below

-- a bit of two numbers one after the other
bit-lower : (a b k i : ℕ) → i < k → bit_of (b + a * 2 ^ k) i ≡ bit_of b i
bit-lower a b k i below = let e : b + a * 2 ^ k ≡ a * 2 ^ k + b = omega arith in rw e (ap (λ (z : ℕ). eqb z 1) (bit_at_cat_low a k b i below))

bit-upper : (a b k i : ℕ) → b < 2 ^ k → k ≤ i → bit_of (b + a * 2 ^ k) i ≡ bit_of a (i - k)
bit-upper a b k i small above = let e : b + a * 2 ^ k ≡ a * 2 ^ k + b = omega arith in rw e (ap (λ (z : ℕ). eqb z 1) (bit_at_cat_high a k b i small above))

some-power : (k : ℕ) → 0 < 2 ^ k
some-power k = pow_pos k

bit-outside : (word from size value i : ℕ) → (i < 8 * from) ⊎ (8 * (from + size) ≤ i) → bit_of (put_word word from size value) i ≡ bit_of word i
bit-outside word from size value i =
    ⊎_elim
    (λ (below : i < 8 * from). bit-lower (value % 2 ^ (8 * size) + word / 2 ^ (8 * (from + size)) * 2 ^ (8 * size)) (word % 2 ^ (8 * from)) (8 * from) i below ∙ bit-cut word (8 * from) i below)
    (λ (above : 8 * (from + size) ≤ i).
    let u = word / 2 ^ (8 * (from + size)) in
    let back : 8 * (from + size) + (i - 8 * from - 8 * size) ≡ i = omega arith in
    bit-upper (value % 2 ^ (8 * size) + u * 2 ^ (8 * size)) (word % 2 ^ (8 * from)) (8 * from) i (mod-lt word (some-power (8 * from))) (omega arith)
    ∙ bit-upper u (value % 2 ^ (8 * size)) (8 * size) (i - 8 * from) (mod-lt value (some-power (8 * size))) (omega arith)
    ∙ sym (bit-down word (8 * (from + size)) (i - 8 * from - 8 * size))
    ∙ ap (bit_of word) back)

bit-inside : (word from size value i : ℕ) → 8 * from ≤ i → i < 8 * (from + size) → bit_of (put_word word from size value) i ≡ bit_of value (i - 8 * from)
bit-inside word from size value i lower upper =
    bit-upper (value % 2 ^ (8 * size) + word / 2 ^ (8 * (from + size)) * 2 ^ (8 * size)) (word % 2 ^ (8 * from)) (8 * from) i (mod-lt word (some-power (8 * from))) lower
    ∙ bit-lower (word / 2 ^ (8 * (from + size))) (value % 2 ^ (8 * size)) (8 * size) (i - 8 * from) (omega arith)
    ∙ bit-cut value (8 * size) (i - 8 * from) (omega arith)

-- bytes of it
byte-outside : (word from size value k : ℕ) → (k < from) ⊎ (from + size ≤ k) → byte_of (put_word word from size value) k ≡ byte_of word k
byte-outside word from size value k out =
    byte-bits (put_word word from size value) k
    ∙ number-same 8 (λ b. bit_of (put_word word from size value) (8 * k + b)) (λ b. bit_of word (8 * k + b)) (λ b inside.
    bit-outside word from size value (8 * k + b) (⊎_elim (λ (l : k < from). inl (omega arith)) (λ (u : from + size ≤ k). inr (omega arith)) out))
    ∙ sym (byte-bits word k)

byte-inside : (word from size value k : ℕ) → from ≤ k → k < from + size → byte_of (put_word word from size value) k ≡ byte_of value (k - from)
byte-inside word from size value k lower upper =
    byte-bits (put_word word from size value) k
    ∙ number-same 8 (λ b. bit_of (put_word word from size value) (8 * k + b)) (λ b. bit_of value (8 * (k - from) + b)) (λ b inside.
    let e : 8 * k + b - 8 * from ≡ 8 * (k - from) + b = omega arith in
    bit-inside word from size value (8 * k + b) (omega arith) (omega arith) ∙ ap (bit_of value) e)
    ∙ sym (byte-bits value (k - from))

-- what the code computes
abbrev pub raw_put : (word from size value : ℕ) → ℕ
raw_put word from size value =
    word % (1 * 2 ^ (8 * from) % 18446744073709551616) + (value % (1 * 2 ^ (8 * size) % 18446744073709551616) + word / (1 * 2 ^ (8 * (from + size)) % 18446744073709551616) * (1 * 2 ^ (8 * size) % 18446744073709551616)) * (1 * 2 ^ (8 * from) % 18446744073709551616)

power-fits : (k : ℕ) → k ≤ 4 → 1 * 2 ^ (8 * k) % 18446744073709551616 ≡ 2 ^ (8 * k)
power-fits zero few = refl
power-fits (suc zero) few = refl
power-fits (suc (suc zero)) few = refl
power-fits (suc (suc (suc zero))) few = refl
power-fits (suc (suc (suc (suc zero)))) few = refl
power-fits (suc (suc (suc (suc (suc k))))) few = absurd (omega arith)

-- a part of a word that is put fits
pub put-small : (word from size value : ℕ) → word < 2 ^ 32 → from + size ≤ 4 → put_word word from size value < 2 ^ 32
put-small word zero zero value small few = omega arith
put-small word zero (suc zero) value small few = omega arith
put-small word zero (suc (suc zero)) value small few = omega arith
put-small word zero (suc (suc (suc zero))) value small few = omega arith
put-small word zero (suc (suc (suc (suc zero)))) value small few = omega arith
put-small word zero (suc (suc (suc (suc (suc size))))) value small few = absurd (omega arith)
put-small word (suc zero) zero value small few = omega arith
put-small word (suc zero) (suc zero) value small few = omega arith
put-small word (suc zero) (suc (suc zero)) value small few = omega arith
put-small word (suc zero) (suc (suc (suc zero))) value small few = omega arith
put-small word (suc zero) (suc (suc (suc (suc size)))) value small few = absurd (omega arith)
put-small word (suc (suc zero)) zero value small few = omega arith
put-small word (suc (suc zero)) (suc zero) value small few = omega arith
put-small word (suc (suc zero)) (suc (suc zero)) value small few = omega arith
put-small word (suc (suc zero)) (suc (suc (suc size))) value small few = absurd (omega arith)
put-small word (suc (suc (suc zero))) zero value small few = omega arith
put-small word (suc (suc (suc zero))) (suc zero) value small few = omega arith
put-small word (suc (suc (suc zero))) (suc (suc size)) value small few = absurd (omega arith)
put-small word (suc (suc (suc (suc zero)))) zero value small few = omega arith
put-small word (suc (suc (suc (suc zero)))) (suc size) value small few = absurd (omega arith)
put-small word (suc (suc (suc (suc (suc from))))) size value small few = absurd (omega arith)

pub raw-is : (word from size value : ℕ) → from + size ≤ 4 → raw_put word from size value ≡ put_word word from size value
raw-is word from size value few = rw (power-fits from (omega arith), power-fits size (omega arith), power-fits (from + size) few) refl

pub raw-small : (word from size value : ℕ) → word < 2 ^ 32 → from + size ≤ 4 → raw_put word from size value < 2 ^ 32
raw-small word from size value small few = rw (raw-is word from size value few) (put-small word from size value small few)

-- ---- reading

-- the word of a column
abbrev pub IsWordAt : Slices → (register column word : ℕ) → Type 0
IsWordAt s register column word = (sub : ℕ) → sub < 32 → bit_of word sub ≡ s.bit sub register column

byte-of-word : (s : Slices) (register column word k : ℕ) → IsWordAt s register column word → k < 4 → number 8 (λ b. s.bit (8 * k + b) register column) ≡ byte_of word k
byte-of-word s register column word k is inside =
    number-same 8 (λ b. s.bit (8 * k + b) register column) (λ b. bit_of word (8 * k + b)) (λ b below. sym (is (8 * k + b) (omega arith)))
    ∙ sym (byte-bits word k)

-- byte t of the registers from r on
group-word : (s : Slices) (r t : ℕ) → 0 < s.columns → r + t / 4 / s.columns < 32
    → group_byte (4 * s.columns) (registers_of s) r t ≡ number 8 (λ b. s.bit (8 * (t % 4) + b) (r + t / 4 / s.columns) (t / 4 % s.columns))
group-word s r t some inside =
    let n = s.columns in
    let at = word-parts n t some in
    let rest : t % (4 * n) < 4 * n = mod-lt t (omega arith) in
    rw at.0 (byte-here s (r + t / 4 / n) (t % (4 * n)) inside rest ∙ rw (at.1, at.2) refl)

shifted-byte : (word from k : ℕ) → byte_of word (from + k) ≡ byte_of (word / 2 ^ (8 * from)) k
shifted-byte word from k =
    let e : 8 * (from + k) ≡ 8 * from + 8 * k = omega arith in
    rw (e, ← shr-shr word (8 * from) (8 * k)) refl

pub element-read : (s : Slices) (r size at word : ℕ) → IsSize size → 0 < s.columns → r + at * size / 4 / s.columns < 32
    → IsWordAt s (r + at * size / 4 / s.columns) (at * size / 4 % s.columns) word
    → word / 2 ^ (8 * (at * size % 4)) % 2 ^ (8 * size) ≡ element_of (4 * s.columns) (registers_of s) r (8 * size) at
unfolding element_of
element-read s r size at word is some inside here =
    let from = at * size % 4 in
    let q = at * size / 4 in
    let whole : 8 * size / 8 ≡ size = omega arith in
    sym (rw whole (little-same size (λ k. group_byte (4 * s.columns) (registers_of s) r (at * size + k)) (byte_of (word / 2 ^ (8 * from))) (λ k below.
    let fits : from + size ≤ 4 = in_word size at is in
    let w : (at * size + k) / 4 ≡ q = omega arith in
    let b : (at * size + k) % 4 ≡ from + k = omega arith in
    group-word s r (at * size + k) some (rw w inside)
    ∙ rw (w, b) (byte-of-word s (r + q / s.columns) (q % s.columns) word (from + k) here (omega arith))
    ∙ shifted-byte word from k)
    ∙ little-bytes size (word / 2 ^ (8 * from))))

-- ---- writing

-- a byte of a register after a word is written
written-byte : (s : Slices) (register column word q j : ℕ) → j < 4 * s.columns
    → register_byte (word_written register column word s) q j ≡ cond (eqb q register && eqb (j / 4) column) (byte_of word (j % 4)) (register_byte s q j)
written-byte s register column word q j inside =
    number-same 8 (λ b. (word_written register column word s).bit (8 * (j % 4) + b) q (j / 4)) (λ b. cond (eqb q register && eqb (j / 4) column) (bit_of word (8 * (j % 4) + b)) (s.bit (8 * (j % 4) + b) q (j / 4))) (λ b below.
    let sub : 8 * (j % 4) + b < 32 = omega arith in
    let col : j / 4 < s.columns = omega arith in
    rw (lt-ltb (8 * (j % 4) + b) 32 sub, lt-ltb (j / 4) s.columns col) refl)
    ∙ chosen (eqb q register && eqb (j / 4) column)
  where
    chosen : (t : Bool) → number 8 (λ b. cond t (bit_of word (8 * (j % 4) + b)) (s.bit (8 * (j % 4) + b) q (j / 4))) ≡ cond t (byte_of word (j % 4)) (register_byte s q j)
    chosen true = sym (byte-bits word (j % 4))
    chosen false = refl

-- the byte that the definition gives
abbrev wanted : (n : ℕ) → List (List ℕ) → (r size at value q j : ℕ) → ℕ
wanted n v r size at value q j =
    cond (leb r q && eqb (place_in_group (4 * n) r q j / (8 * size / 8)) at) (byte_of value (place_in_group (4 * n) r q j % (8 * size / 8))) (byte_at v q j)

-- the word of byte j of register q is the one that is written, or another one
same-word : (n r w q j : ℕ) → 0 < n → r ≤ q → j < 4 * n → place_in_group (4 * n) r q j / 4 ≡ w → (q ≡ r + w / n) × (j / 4 ≡ w % n)
same-word n r w q j some from inside is =
    let d = q - r in
    let col : j / 4 < n = omega arith in
    let e : d * n + j / 4 ≡ w = moved d n is in
    let x : w / n ≡ d = rw (← e) (div-mul-add d n (j / 4) col) in
    let y : w % n ≡ j / 4 = rw (← e) (mod-mul-add d n (j / 4) col) in
    (omega arith, sym y)
  where
    moved : (d n : ℕ) → (d * (4 * n) + j) / 4 ≡ w → d * n + j / 4 ≡ w
    moved d n e = omega arith

word-again : (n r w q j : ℕ) → 0 < n → q ≡ r + w / n → j / 4 ≡ w % n → place_in_group (4 * n) r q j / 4 ≡ w
word-again n r w q j some e f =
    let d : q - r ≡ w / n = omega arith in
    let parts : w / n * n + w % n ≡ w = div-add-mod' w n in
    rw d (moved (w / n) n (w % n) parts f)
  where
    moved : (d n m : ℕ) → d * n + m ≡ w → j / 4 ≡ m → (d * (4 * n) + j) / 4 ≡ w
    moved d n m e f = omega arith

wanted-byte : (s : Slices) (r size at value old q j : ℕ) → IsSize size → 0 < s.columns → q < 32 → j < 4 * s.columns
    → IsWordAt s (r + at * size / 4 / s.columns) (at * size / 4 % s.columns) old
    → cond (eqb q (r + at * size / 4 / s.columns) && eqb (j / 4) (at * size / 4 % s.columns)) (byte_of (put_word old (at * size % 4) size value) (j % 4)) (register_byte s q j)
    ≡ wanted s.columns (registers_of s) r size at value q j
wanted-byte s r size at value old q j is some inside within here =
    let n = s.columns in
    let w = at * size / 4 in
    let from = at * size % 4 in
    let reg = r + w / n in
    let col = w % n in
    let p = place_in_group (4 * n) r q j in
    let whole : 8 * size / 8 ≡ size = omega arith in
    let k : p % 4 ≡ j % 4 = low_place (q - r) n in
    let old_byte : byte_at (registers_of s) q j ≡ register_byte s q j = byte-here s q j inside within in
    rw (whole, old_byte) (
    ⊎_elim
    (λ (below : q < r).
    let apart : q ≡ reg → ⊥ = omega arith in
    rw (lt-leb r q below, ne_eqb q reg apart) refl)
    (λ (from_r : r ≤ q).
    rw (le-leb r q from_r) (
    ⊎_elim
    (λ (same : p / 4 ≡ w).
    let at_word = same-word n r w q j some from_r within same in
    let h : register_byte s q j ≡ byte_of old (j % 4) = rw (at_word.0, at_word.1) (byte-of-word s reg col old (j % 4) here (omega arith)) in
    rw (eq-eqb q reg at_word.0, eq-eqb (j / 4) col at_word.1) (
    ⊎_elim
    (λ (low_out : j % 4 < from).
    let out : p / size ≡ at → ⊥ = λ e. let x = slot-word size at p is e in omega arith in
    rw (ne_eqb (p / size) at out) (byte-outside old from size value (j % 4) (inl low_out) ∙ sym h))
    (λ (low_in : from ≤ j % 4).
    ⊎_elim
    (λ (high_in : j % 4 < from + size).
    let x = slot-inside size at p is same (omega arith) (omega arith) in
    let y : p % size ≡ j % 4 - from = omega (arith, x.1) in
    rw (eq-eqb (p / size) at x.0, y) (byte-inside old from size value (j % 4) low_in high_in))
    (λ (high_out : from + size ≤ j % 4).
    let out : p / size ≡ at → ⊥ = λ e. let x = slot-word size at p is e in omega arith in
    rw (ne_eqb (p / size) at out) (byte-outside old from size value (j % 4) (inr high_out) ∙ sym h))
    (cases_lt (j % 4) (from + size)))
    (cases_lt (j % 4) from)))
    (λ (other : p / 4 ≡ w → ⊥).
    let out : p / size ≡ at → ⊥ = λ e. other (slot-word size at p is e).0 in
    rw (ne_eqb (p / size) at out) (
    ⊎_elim
    (λ (e : q ≡ reg).
    let c : j / 4 ≡ col → ⊥ = λ f. other (word-again n r w q j some e f) in
    rw (ne_eqb (j / 4) col c) (not_both (eqb q reg) (byte_of (put_word old from size value) (j % 4)) (register_byte s q j)))
    (λ (e : q ≡ reg → ⊥). rw (ne_eqb q reg e) refl)
    (cases_eq q reg)))
    (cases_eq (p / 4) w)))
    (cases_lt q r))
  where
    low_place : (d n : ℕ) → (d * (4 * n) + j) % 4 ≡ j % 4
    low_place d n = omega arith

    not_both : (t : Bool) (x y : ℕ) → cond (t && false) x y ≡ y
    not_both true x y = refl
    not_both false x y = refl

pub element-written : (s : Slices) (r size at value old : ℕ) → IsSize size → 0 < s.columns
    → IsWordAt s (r + at * size / 4 / s.columns) (at * size / 4 % s.columns) old
    → registers_of (word_written (r + at * size / 4 / s.columns) (at * size / 4 % s.columns) (put_word old (at * size % 4) size value) s)
    ≡ with_element (4 * s.columns) (registers_of s) r (8 * size) at value
unfolding registers_of with_element with_bytes
element-written s r size at value old is some here =
    let n = s.columns in
    let v = registers_of s in
    let t = word_written (r + at * size / 4 / n) (at * size / 4 % n) (put_word old (at * size % 4) size value) s in
    let count : length v ≡ 32 = length-registers_of s in
    rw count (tabulate-same 32 (register_of t) (λ q. tabulate (length (get_or v q [])) (wanted n v r size at value q)) (λ q inside.
    let long : length (get_or v q []) ≡ 4 * n = (are-registers_of s).sizes q inside in
    rw long (tabulate-same (4 * n) (register_byte t q) (wanted n v r size at value q) (λ j within.
    written-byte s (r + at * size / 4 / n) (at * size / 4 % n) (put_word old (at * size % 4) size value) q j within
    ∙ wanted-byte s r size at value old q j is some inside within here))))

-- a word of a register row leaves all else
pub rest-written : (s : Slices) (register column word : ℕ) → register < 32 → KeepsRest s (word_written register column word s)
rest-written s register column word inside = record {
  columns = refl;
  tags = λ sub col. refl;
  num = refl;
  rows = λ sub row col above.
      let apart : row ≡ register → ⊥ = omega arith in
      rw (ne_eqb row register apart) (same (placed s.columns sub col) (eqb col column) (eqb (word / 2 ^ sub % 2) 1) (s.bit sub row col));
}
  where
    same : (p t x y : Bool) → cond (p && false && t) x y ≡ y
    same true t x y = refl
    same false t x y = refl

-- an element of the registers from r on lies in one of them
pub in_registers : (n r size at : ℕ) → 0 < n → 0 < size → r < 32 → (at + 1) * size ≤ (32 - r) * (4 * n) → r + at * size / 4 / n < 32
in_registers n r size at some wide inside room =
    let upper : at * size / 4 < (32 - r) * n = quarter ((32 - r) * n) (at * size) (omega arith) in
    let q : at * size / 4 / n < 32 - r = (div-lt_iff_lt-mul some).1 upper in
    omega arith
  where
    quarter : (m p : ℕ) → p < 4 * m → p / 4 < m
    quarter m p l = omega arith

-- ---- as the code says it

pub some-size : (size : ℕ) → IsSize size → 0 < size
some-size size is = ⊎_elim (λ (e : size ≡ 1). omega arith) (λ (other : (size ≡ 2) ⊎ (size ≡ 4)). ⊎_elim (λ (e : size ≡ 2). omega arith) (λ (e : size ≡ 4). omega arith) other) is

pub element_read : (s : Slices) (n r size at word : ℕ) → n ≡ s.columns → 1 ≤ n → IsSize size → r < 32 → (at + 1) * size ≤ (32 - r) * (4 * s.columns)
    → IsWordAt s (r + at * size / 4 / n) (at * size / 4 % n) word
    → word / 2 ^ (8 * (at * size % 4)) % 2 ^ (8 * size) ≡ element_of (4 * s.columns) (registers_of s) r (8 * size) at
element_read s n r size at word same some is inside room here =
    let wide : 0 < size = some-size size is in
    let places : 0 < s.columns = omega arith in
    element-read s r size at word is places (in_registers s.columns r size at places wide inside room) (rw same at here)

pub element_written : (s t : Slices) (n r size at value old new : ℕ) → n ≡ s.columns → 1 ≤ n → IsSize size → r < 32 → (at + 1) * size ≤ (32 - r) * (4 * s.columns)
    → IsWordAt s (r + at * size / 4 / n) (at * size / 4 % n) old
    → new ≡ put_word old (at * size % 4) size value
    → t ≡ word_written (r + at * size / 4 / n) (at * size / 4 % n) new s
    → (registers_of t ≡ with_element (4 * s.columns) (registers_of s) r (8 * size) at value) × KeepsRest s t
element_written s t n r size at value old new same some is inside room here made written =
    let wide : 0 < size = some-size size is in
    let places : 0 < s.columns = omega arith in
    let reg : r + at * size / 4 / s.columns < 32 = in_registers s.columns r size at places wide inside room in
    rw (written, made, same)
    (element-written s r size at value old is places (rw same at here), rest-written s (r + at * size / 4 / s.columns) (at * size / 4 % s.columns) (put_word old (at * size % 4) size value) reg)
