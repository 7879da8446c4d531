-- Clips of numbers that are wider, by their bits.
use Rattle.std.proofs.Common.{◌≡◌, ℕ, zero, suc, ◌+◌, ◌-◌, ◌*◌, ◌/◌, ◌^◌, ◌<◌, ◌≤◌, Bool, true, false, cond, not, ℤ, pos, ◌-ℤ◌, ◌||◌, refl, sym, ◌∙◌, ap, arith}
use mathlib.Core.Bool.{beq}
use Rattle.std.proofs.lemmas.Int.{ints}
use Rattle.std.proofs.lemmas.Bool.{lt-ltb, le-ltb}
use Rattle.std.proofs.lemmas.Nat.{pow_pos, pow-add, div-mul-add}
use Rattle.std.proofs.Math.Nat.{pow-suc, mul-le-mul_right}
use Rattle.bit_laws.specs.Numbers.{number}
use Rattle.bit_laws.specs.Signed.{signed}
use Rattle.bit_laws.specs.Rounding.{low_int, any_below, clipped, clips}
use Rattle.bit_laws.proofs.Numbers.{number-lt, number-cat}
use Rattle.bit_laws.proofs.Ints.{with_sign, signed-is}
use Rattle.gen_fixed.proofs.Bounds.{Bounded, bounded-above, clip_bits, clip_of, clips_of, less, less-pos, low-sign, low-number, top-bit, all-number, none-number, least_sign, most_sign}

-- ---- without signs

-- what it says of a number that one of its bits is 1
record Filled (m : ℕ) (v : Bool) : Type 0 where
  some : v ≡ true → 0 < m
  none : v ≡ false → m ≡ 0

filled-more : (q p : ℕ) (v b : Bool) → 0 < p → Filled q v → Filled (q + cond b p 0) (v || b)
filled-more q p true b some h = record { some = λ e. let s = h.some refl in omega arith; none = λ e. absurd (cc) }
filled-more q p false true some h = record { some = λ e. omega arith; none = λ e. absurd (cc) }
filled-more q p false false some h = record { some = λ e. absurd (cc); none = λ e. let z = h.none refl in omega arith }

filled : (m : ℕ) (f : ℕ → Bool) → Filled (number m f) (any_below m f)
filled zero f = record { some = λ e. absurd (cc); none = λ e. refl }
filled (suc m) f = filled-more (number m f) (2 ^ m) (any_below m f) (f m) (pow_pos m) (filled m f)

-- a number of 2w bits, of which the highest w bits are y
pub narrowed-unsigned : (w : ℕ) (x : ℕ → Bool) → Bounded w (number (w + w) x) (number w x) (any_below w (λ i. x (w + i)))
narrowed-unsigned w x =
    let y : ℕ → Bool = λ i. x (w + i) in
    let f = filled w y in
    let whole : number (w + w) x ≡ number w x + number w y * 2 ^ w = number-cat w w x in
    bounded-above w (number (w + w) x) (number w x) (any_below w y) (number-lt w x)
    (λ q. let one : 1 * 2 ^ w ≤ number w y * 2 ^ w = mul-le-mul_right (2 ^ w) (f.some q) in rw whole (omega (arith, one)))
    (λ q. let none : number w y ≡ 0 = f.none q in rw (whole, none) (omega arith))

pub high-part : (w : ℕ) (x : ℕ → Bool) → number (w + w) x / 2 ^ w ≡ number w (λ i. x (w + i))
high-part w x =
    let y : ℕ → Bool = λ i. x (w + i) in
    let whole : number (w + w) x ≡ number w y * 2 ^ w + number w x = number-cat w w x ∙ omega arith in
    ap (λ n. n / 2 ^ w) whole ∙ div-mul-add (number w y) (2 ^ w) (number w x) (number-lt w x)

-- ---- with signs

-- one of the bits differs from s
abbrev pub differs : (m : ℕ) (f : ℕ → Bool) (s : Bool) → Bool
differs m f s = any_below m (λ i. not (beq (f i) s))

-- what that says of their number
abbrev Says : (m p : ℕ) (s v : Bool) → Type 0
Says m p true true = m + 1 < p
Says m p true false = m + 1 ≡ p
Says m p false true = 0 < m
Says m p false false = m ≡ 0

says-more : (q p : ℕ) (b s v : Bool) → q < p → Says q p s v → Says (q + cond b p 0) (p * 2) s (v || not (beq b s))
says-more q p true true true l h = omega arith
says-more q p false true true l h = omega arith
says-more q p true true false l h = omega arith
says-more q p false true false l h = omega arith
says-more q p true false true l h = omega arith
says-more q p false false true l h = omega arith
says-more q p true false false l h = omega arith
says-more q p false false false l h = omega arith

says : (m : ℕ) (f : ℕ → Bool) (s : Bool) → Says (number m f) (2 ^ m) s (differs m f s)
says zero f true = refl
says zero f false = refl
says (suc m) f s = rw (pow-suc 2 m) (says-more (number m f) (2 ^ m) (f m) s (differs m f s) (number-lt m f) (says m f s))

first-same : (m : ℕ) (f : ℕ → Bool) (s : Bool) → 0 < m → differs m f s ≡ false → f 0 ≡ s
first-same zero f s some h = absurd (omega arith)
first-same (suc zero) f s some h = same (f 0) s h
  where
    same : (a b : Bool) → false || not (beq a b) ≡ false → a ≡ b
    same true true h = refl
    same true false h = absurd (cc)
    same false true h = absurd (cc)
    same false false h = refl
first-same (suc (suc m)) f s some h = first-same (suc m) f s (omega arith) (left_none (differs (suc m) f s) (not (beq (f (suc m)) s)) h)
  where
    left_none : (a b : Bool) → a || b ≡ false → a ≡ false
    left_none true b h = absurd (cc)
    left_none false b h = refl

record Cases (n h : ℕ) (s v : Bool) (z : ℤ) : Type 0 where
  value : clip_of z h ≡ cond v (cond s (pos 0 -ℤ pos h) (pos h -ℤ pos 1)) (pos n -ℤ pos (cond s h 0))
  clip : clips_of z h ≡ v

minus : (n q h p : ℕ) → q + 1 ≡ p → pos (n + q * h) -ℤ pos (p * h) ≡ pos n -ℤ pos h
minus n q h p e = let f : p * h ≡ q * h + h = rw (sym e) (omega arith) in rw f (omega (arith, ints))

cases : (n q h p : ℕ) (s v : Bool) → n < h → Says q p s v → Cases n h s v (pos (n + q * h) -ℤ pos (cond s (p * h) 0))
cases n q h p true true l e =
    let f : q + 2 ≤ p = omega arith in
    let g : (q + 2) * h ≤ p * h = mul-le-mul_right h f in
    let k : (q + 2) * h ≡ q * h + h + h = omega arith in
    let a = less (n + q * h) 0 (p * h) h ∙ lt-ltb (n + q * h + h) (0 + p * h) (omega arith) in
    record { value = rw a refl; clip = rw a refl }
cases n q h p true false l e =
    let z = minus n q h p e in
    let a = less n 0 h h ∙ le-ltb (n + h) (0 + h) (omega arith) in
    let b = less-pos n h h ∙ lt-ltb n (h + h) (omega arith) in
    record { value = rw z (rw (a, b) refl); clip = rw z (rw (a, b) refl) }
cases n q h p false true l e =
    let g : 1 * h ≤ q * h = mul-le-mul_right h e in
    let a = less (n + q * h) 0 0 h ∙ le-ltb (n + q * h + h) (0 + 0) (omega arith) in
    let b = less-pos (n + q * h) h 0 ∙ le-ltb (n + q * h) (h + 0) (omega arith) in
    record { value = rw (a, b) refl; clip = rw (a, b) refl }
cases n q h p false false l e =
    let f : n + q * h ≡ n = rw e (omega arith) in
    let a = less n 0 0 h ∙ le-ltb (n + h) (0 + 0) (omega arith) in
    let b = less-pos n h 0 ∙ lt-ltb n (h + 0) (omega arith) in
    rw f (record { value = rw (a, b) refl; clip = rw (a, b) refl })

-- n low bits, m bits above them, the sign s
pub record Narrowed (n m : ℕ) (x : ℕ → Bool) (s : Bool) : Type 0 where
  pub value : number (suc n) (clip_bits n (differs m (λ i. x (n + i)) s) s x) ≡ low_int (suc n) (clipped (suc n) (with_sign (n + m) x s))
  pub clip : differs m (λ i. x (n + i)) s ≡ clips (suc n) (with_sign (n + m) x s)

bits-are : (n : ℕ) (x : ℕ → Bool) (s v : Bool) → (v ≡ false → x n ≡ s) → cond v (cond s (pos 0 -ℤ pos (2 ^ n)) (pos (2 ^ n) -ℤ pos 1)) (pos (number n x) -ℤ pos (cond s (2 ^ n) 0)) ≡ with_sign (suc n) (clip_bits n v s x) s
bits-are n x true true same = rw (low-number n true true x, top-bit n true true x, none-number n, pow-suc 2 n) (sym (least_sign (2 ^ n)))
bits-are n x false true same = rw (low-number n true false x, top-bit n true false x, all-number n) (sym (most_sign (2 ^ n) (pow_pos n)))
bits-are n x true false same = rw (low-number n false true x, top-bit n false true x, same refl, pow-suc 2 n) (whole (number n x) (2 ^ n))
  where
    whole : (a h : ℕ) → pos a -ℤ pos h ≡ pos (a + h) -ℤ pos (h * 2)
    whole a h = omega (arith, ints)
bits-are n x false false same = rw (low-number n false false x, top-bit n false false x, same refl) (whole (number n x))
  where
    whole : (a : ℕ) → pos a -ℤ pos 0 ≡ pos (a + 0) -ℤ pos 0
    whole a = omega (arith, ints)

narrowed : (n m : ℕ) (x : ℕ → Bool) (s : Bool) → 0 < m → Narrowed n m x s
narrowed n m x s some =
    let f : ℕ → Bool = λ i. x (n + i) in
    let v = differs m f s in
    let z : suc n - 1 ≡ n = omega arith in
    let y : n + 0 ≡ n = omega arith in
    let c = cases (number n x) (number m f) (2 ^ n) (2 ^ m) s v (number-lt n x) (says m f s) in
    let p : 2 ^ (n + m) ≡ 2 ^ m * 2 ^ n = pow-add 2 n m ∙ omega arith in
    let same : pos (number n x + number m f * 2 ^ n) -ℤ pos (cond s (2 ^ m * 2 ^ n) 0) ≡ with_sign (n + m) x s = rw (number-cat n m x, p) refl in
    let value : clip_of (with_sign (n + m) x s) (2 ^ n) ≡ cond v (cond s (pos 0 -ℤ pos (2 ^ n)) (pos (2 ^ n) -ℤ pos 1)) (pos (number n x) -ℤ pos (cond s (2 ^ n) 0)) = rw (sym same) c.value in
    let clip : clips_of (with_sign (n + m) x s) (2 ^ n) ≡ v = rw (sym same) c.clip in
    record {
      value = sym (ap (λ k. low_int (suc n) (clip_of (with_sign (n + m) x s) (2 ^ k))) z ∙ ap (low_int (suc n)) (value ∙ bits-are n x s v (λ h. sym (ap x y) ∙ first-same m f s some h)) ∙ low-sign (suc n) (clip_bits n v s x) s);
      clip = sym (ap (λ k. clips_of (with_sign (n + m) x s) (2 ^ k)) z ∙ clip);
    }

-- the sign of a number may stand at its highest bit or above it
sign-inner : (k : ℕ) (x : ℕ → Bool) → with_sign (suc k) x (x k) ≡ with_sign k x (x k)
sign-inner k x = rw (pow-suc 2 k) (inner (x k) (number k x) (2 ^ k))
  where
    inner : (b : Bool) (a p : ℕ) → pos (a + cond b p 0) -ℤ pos (cond b (p * 2) 0) ≡ pos a -ℤ pos (cond b p 0)
    inner true a p = omega (arith, ints)
    inner false a p = omega (arith, ints)

-- a number of 2w bits, of which w is n + 1
pub narrowed-signed : (n : ℕ) (x : ℕ → Bool) (z : ℤ) → z ≡ signed (suc n + suc n) (number (suc n + suc n) x)
    → (let v = differs (suc n) (λ i. x (n + i)) (x (n + suc n)) in
    (number (suc n) (clip_bits n v (x (n + suc n)) x) ≡ low_int (suc n) (clipped (suc n) z)) × (v ≡ clips (suc n) z))
narrowed-signed n x z is =
    let k = n + suc n in
    let d : suc n + suc n ≡ suc k = omega arith in
    let top : suc k - 1 ≡ k = omega arith in
    let s = signed-is (suc k) x (omega arith) in
    let q : z ≡ with_sign k x (x k) =
    is ∙ ap (λ m. signed m (number m x)) d ∙ sym s ∙ ap (λ m. with_sign (suc k) x (x m)) top ∙ sign-inner k x in
    let r = narrowed n (suc n) x (x k) (omega arith) in
    rw q (r.value, r.clip)
