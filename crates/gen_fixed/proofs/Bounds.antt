-- Numbers that are clipped to the range of an element, by their bits.
use Rattle.std.proofs.Common.{◌≡◌, ℕ, zero, suc, ◌+◌, ◌-◌, ◌*◌, ◌^◌, ◌<◌, ◌≤◌, Bool, true, false, cond, not, ltb, int_lt, ℤ, pos, ◌-ℤ◌, refl, sym, ◌∙◌, ap, arith}
use mathlib.Core.Bool.{beq}
use Rattle.std.proofs.lemmas.Int.{ints}
use Rattle.std.proofs.lemmas.Bool.{lt-ltb, le-ltb}
use Rattle.std.proofs.lemmas.Nat.{pow_pos}
use Rattle.std.proofs.Math.Nat.{pow-suc}
use Rattle.bit_laws.specs.Numbers.{number}
use Rattle.bit_laws.specs.Rounding.{bit_of_int, low_int, clipped, clips, clipped_unsigned, clips_unsigned}
use Rattle.bit_laws.proofs.Numbers.{number-lt, number-same}
use Rattle.bit_laws.proofs.Ints.{with_sign, bit-signed, number-int, inverts, low-small}

pub none-number : (w : ℕ) → number w (λ i. false) ≡ 0
none-number zero = refl
none-number (suc n) = rw (none-number n) refl

pub all-number : (w : ℕ) → number w (λ i. true) ≡ 2 ^ w - 1
all-number w = let e = inverts w (λ i. true) in let z = none-number w in omega (arith, e, z)

-- ---- without signs

less-zero : (x : ℕ) → int_lt (pos x) (pos 0) ≡ false
less-zero x = le-ltb x 0 (omega arith)

-- A number s of which the low w bits are t: where k it is past the range, and else it is t.
pub record Bounded (w s t : ℕ) (k : Bool) : Type 0 where
  pub value : cond k (2 ^ w - 1) t ≡ low_int w (clipped_unsigned w (pos s))
  pub clip : k ≡ clips_unsigned w (pos s)

pub bounded-above : (w s t : ℕ) (k : Bool) → t < 2 ^ w → (k ≡ true → 2 ^ w ≤ s) → (k ≡ false → s ≡ t) → Bounded w s t k
bounded-above w s t true small past same =
    let p : 0 < 2 ^ w = pow_pos w in
    let a : int_lt (pos s) (pos (2 ^ w)) ≡ false = le-ltb s (2 ^ w) (past refl) in
    let m : pos (2 ^ w) -ℤ pos 1 ≡ pos (2 ^ w - 1) = omega (arith, ints) in
    record { value = rw (less-zero s, a, m) (sym (low-small w (2 ^ w - 1) (omega arith))); clip = rw (less-zero s, a) refl }
bounded-above w s t false small past same =
    let a : int_lt (pos s) (pos (2 ^ w)) ≡ true = lt-ltb s (2 ^ w) (omega (arith, same refl)) in
    record { value = rw (less-zero s, a) (sym (same refl) ∙ sym (low-small w s (omega (arith, same refl)))); clip = rw (less-zero s, a) refl }

-- A difference of which the low w bits are t: where k it is below 0, and else it is t.
pub record Emptied (w : ℕ) (z : ℤ) (t : ℕ) (k : Bool) : Type 0 where
  pub value : cond k 0 t ≡ low_int w (clipped_unsigned w z)
  pub clip : k ≡ clips_unsigned w z

pub bounded-below : (w t : ℕ) (k : Bool) → t < 2 ^ w → Emptied w (pos t -ℤ pos (cond k (2 ^ w) 0)) t k
bounded-below w t true small =
    let p : 0 < 2 ^ w = pow_pos w in
    let a : int_lt (pos t -ℤ pos (2 ^ w)) (pos 0) ≡ true = below t (2 ^ w) small in
    record { value = rw a (sym (low-small w 0 p)); clip = rw a refl }
  where
    below : (t p : ℕ) → t < p → int_lt (pos t -ℤ pos p) (pos 0) ≡ true
    below t p l = lesser t p ∙ lt-ltb t p l
      where
        lesser : (t p : ℕ) → int_lt (pos t -ℤ pos p) (pos 0) ≡ ltb t p
        lesser t p = grind (arith, ints)
bounded-below w t false small =
    let m : pos t -ℤ pos 0 ≡ pos t = omega (arith, ints) in
    let b = bounded-above w t t false small (λ q. absurd (cc)) (λ q. refl) in
    rw m (record { value = b.value; clip = b.clip })

-- ---- with signs

pub less : (x y p q : ℕ) → int_lt (pos x -ℤ pos p) (pos y -ℤ pos q) ≡ ltb (x + q) (y + p)
less x y p q = grind (arith, ints)

pub less-pos : (x y p : ℕ) → int_lt (pos x -ℤ pos p) (pos y) ≡ ltb x (y + p)
less-pos x y p = grind (arith, ints)

pub low-sign : (w : ℕ) (f : ℕ → Bool) (k : Bool) → low_int w (with_sign w f k) ≡ number w f
low-sign w f k =
    sym (number-int w (with_sign w f k)) ∙ number-same w (bit_of_int (with_sign w f k)) f (λ i l. bit-signed w f k i ∙ rw (lt-ltb i w l) refl)

-- the number clipped to the numbers from -h on and below h
abbrev pub clip_of : (z : ℤ) (h : ℕ) → ℤ
clip_of z h = cond (int_lt z (pos 0 -ℤ pos h)) (pos 0 -ℤ pos h) (cond (int_lt z (pos h)) z (pos h -ℤ pos 1))

abbrev pub clips_of : (z : ℤ) (h : ℕ) → Bool
clips_of z h = cond (int_lt z (pos 0 -ℤ pos h)) true (cond (int_lt z (pos h)) false true)

-- where v, it is the bound on the side of the sign s, and else it is the number
pub record ClipCases (n h : ℕ) (s v : Bool) (z : ℤ) : Type 0 where
  pub value : clip_of z h ≡ cond v (cond s (pos 0 -ℤ pos h) (pos h -ℤ pos 1)) z
  pub clip : clips_of z h ≡ v

-- of n + 1 digits t and the sign k
clip-cases : (n h : ℕ) (t k : Bool) → n < h → ClipCases n h k (not (beq t k)) (pos (n + cond t h 0) -ℤ pos (cond k (h * 2) 0))
clip-cases n h true true l =
    let a = less (n + h) 0 (h * 2) h ∙ le-ltb (n + h + h) (0 + h * 2) (omega arith) in
    let b = less-pos (n + h) h (h * 2) ∙ lt-ltb (n + h) (h + h * 2) (omega arith) in
    record { value = rw (a, b) refl; clip = rw (a, b) refl }
clip-cases n h true false l =
    let a = less (n + h) 0 0 h ∙ le-ltb (n + h + h) (0 + 0) (omega arith) in
    let b = less-pos (n + h) h 0 ∙ le-ltb (n + h) (h + 0) (omega arith) in
    record { value = rw (a, b) refl; clip = rw (a, b) refl }
clip-cases n h false true l =
    let a = less (n + 0) 0 (h * 2) h ∙ lt-ltb (n + 0 + h) (0 + h * 2) (omega arith) in
    record { value = rw a refl; clip = rw a refl }
clip-cases n h false false l =
    let a = less (n + 0) 0 0 h ∙ le-ltb (n + 0 + h) (0 + 0) (omega arith) in
    let b = less-pos (n + 0) h 0 ∙ lt-ltb (n + 0) (h + 0) (omega arith) in
    record { value = rw (a, b) refl; clip = rw (a, b) refl }

-- the bits of the clipped number, by the overflow v, the sign s and the digits t
abbrev pub clip_bits : (n : ℕ) (v s : Bool) (t : ℕ → Bool) → ℕ → Bool
clip_bits n v s t i = cond (ltb i n) (cond v (not s) (t i)) (cond v s (t i))

pub least_sign : (h : ℕ) → pos (0 + h) -ℤ pos (h * 2) ≡ pos 0 -ℤ pos h
least_sign h = omega (arith, ints)

pub most_sign : (h : ℕ) → 0 < h → pos (h - 1 + 0) -ℤ pos 0 ≡ pos h -ℤ pos 1
most_sign h some = omega (arith, ints)

pub low-number : (n : ℕ) (v s : Bool) (t : ℕ → Bool) → number n (clip_bits n v s t) ≡ cond v (number n (λ i. not s)) (number n t)
low-number n true s t = number-same n (clip_bits n true s t) (λ i. not s) (λ i l. rw (lt-ltb i n l) refl)
low-number n false s t = number-same n (clip_bits n false s t) t (λ i l. rw (lt-ltb i n l) refl)

pub top-bit : (n : ℕ) (v s : Bool) (t : ℕ → Bool) → clip_bits n v s t n ≡ cond v s (t n)
top-bit n v s t = rw (le-ltb n n (omega arith)) refl

-- those bits are the clipped number's, whose sign is k
pub clip-bits : (n : ℕ) (t : ℕ → Bool) (k s v : Bool) → (v ≡ true → s ≡ k)
    → cond v (cond k (pos 0 -ℤ pos (2 ^ n)) (pos (2 ^ n) -ℤ pos 1)) (with_sign (suc n) t k) ≡ with_sign (suc n) (clip_bits n v s t) k
clip-bits n t k s false agrees = rw (low-number n false s t, top-bit n false s t) refl
clip-bits n t true s true agrees =
    let q = agrees refl in
    rw (low-number n true s t, top-bit n true s t, q, none-number n, pow-suc 2 n) (sym (least_sign (2 ^ n)))
clip-bits n t false s true agrees =
    let q = agrees refl in
    rw (low-number n true s t, top-bit n true s t, q, all-number n) (sym (most_sign (2 ^ n) (pow_pos n)))

-- The bits make the number z clipped to n + 1 bits, and v tells whether it is.
pub record Clipped (n : ℕ) (t : ℕ → Bool) (s v : Bool) (z : ℤ) : Type 0 where
  pub value : number (suc n) (clip_bits n v s t) ≡ low_int (suc n) (clipped (suc n) z)
  pub clip : v ≡ clips (suc n) z

-- of n + 1 digits t and the sign k one place beyond them
pub clip-is : (n : ℕ) (t : ℕ → Bool) (k s v : Bool) → v ≡ not (beq (t n) k) → (v ≡ true → s ≡ k) → Clipped n t s v (with_sign (suc n) t k)
clip-is n t k s v is agrees =
    let z : suc n - 1 ≡ n = omega arith in
    let c = clip-cases (number n t) (2 ^ n) (t n) k (number-lt n t) in
    let same : pos (number n t + cond (t n) (2 ^ n) 0) -ℤ pos (cond k (2 ^ n * 2) 0) ≡ with_sign (suc n) t k = rw (pow-suc 2 n) refl in
    let value : clip_of (with_sign (suc n) t k) (2 ^ n) ≡ cond (not (beq (t n) k)) (cond k (pos 0 -ℤ pos (2 ^ n)) (pos (2 ^ n) -ℤ pos 1)) (with_sign (suc n) t k) = rw (sym same) c.value in
    let clip : clips_of (with_sign (suc n) t k) (2 ^ n) ≡ not (beq (t n) k) = rw (sym same) c.clip in
    record {
      value = sym (ap (λ m. low_int (suc n) (clip_of (with_sign (suc n) t k) (2 ^ m))) z ∙ ap (low_int (suc n)) (value ∙ ap (λ b. cond b (cond k (pos 0 -ℤ pos (2 ^ n)) (pos (2 ^ n) -ℤ pos 1)) (with_sign (suc n) t k)) (sym is) ∙ clip-bits n t k s v agrees)
          ∙ low-sign (suc n) (clip_bits n v s t) k);
      clip = is ∙ sym (ap (λ m. clips_of (with_sign (suc n) t k) (2 ^ m)) z ∙ clip);
    }
