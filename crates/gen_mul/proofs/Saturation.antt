-- The product of two numbers with signs over 2^n, rounded: the one case that is clipped.
use Rattle.std.proofs.Common.{◌≡◌, ℕ, ℤ, pos, negsuc, ◌+◌, ◌-◌, ◌*◌, ◌/◌, ◌^◌, ◌<◌, ◌≤◌, ◌+ℤ◌, ◌-ℤ◌, ◌*ℤ◌, Bool, true, false, cond, not, ltb, eqb, ◌&&◌, zero, suc, refl, sym, ◌∙◌, ap, subst, arith, ⊎_elim}
use Rattle.std.specs.Int.{from_bool, bit_at}
use Rattle.std.proofs.Math.Nat.{mod-add-div', mul-div_cancel, div-lt_iff_lt-mul, pow-suc}
use Rattle.std.proofs.lemmas.Bool.{cases_lt, lt-ltb, le-ltb}
use Rattle.std.proofs.lemmas.Int.{ints}
use Rattle.std.proofs.lemmas.Nat.{pow-add, pow_pos}
use Rattle.std.proofs.lemmas.Nat.Bits.{bit_at_cat_low, bit_at_cat_high}
use Rattle.bit_laws.specs.Numbers.{bit_of}
use Rattle.bit_laws.specs.Rounding.{bit_of_int, low_int, any_below, increment, increment_of, rounded, clipped, clips}
use Rattle.bit_laws.specs.Signed.{signed}
use Rattle.bit_laws.proofs.Ints.{above-none, low-small}
use Rattle.bit_laws.proofs.Rounding.{plus-zero}
use Rattle.gen_mul.proofs.Exact.{sized}

-- ---- a multiple of 2^n is not rounded

multiple-bit : (k n j : ℕ) → j < n → bit_of (k * 2 ^ n) j ≡ false
multiple-bit k n j l =
    let e : k * 2 ^ n ≡ k * 2 ^ n + 0 = omega arith in
    rw (e, bit_at_cat_low k n 0 j l) (above-none 0 0 j (pow_pos 0) (omega arith))

none-below : (n : ℕ) (x : ℕ → Bool) → ((j : ℕ) → j < n → x j ≡ false) → any_below n x ≡ false
none-below zero x none = refl
none-below (suc n) x none = rw (none-below n x (λ j l. none j (omega arith)), none n (omega arith)) refl

no-increment : (mode : ℕ) (odd : Bool) → increment mode odd false false ≡ false
no-increment zero odd = refl
no-increment (suc zero) odd = refl
no-increment (suc (suc zero)) odd = refl
no-increment (suc (suc (suc n))) true = refl
no-increment (suc (suc (suc n))) false = refl

multiple-whole : (mode k n : ℕ) → increment_of mode (pos (k * 2 ^ n)) n ≡ false
multiple-whole mode k zero = no-increment mode (bit_of (k * 2 ^ 0) 0)
multiple-whole mode k (suc n) =
    rw (multiple-bit k (suc n) n (omega arith), none-below n (bit_of (k * 2 ^ suc n)) (λ j l. multiple-bit k (suc n) j (omega arith))) (no-increment mode (bit_of (k * 2 ^ suc n) (suc n)))

-- ---- what is clipped, at n + 1 bits

-- the number is in the range
record Whole (n : ℕ) (z : ℤ) : Type 0 where
  flag : clips (suc n) z ≡ false
  same : clipped (suc n) z ≡ z

whole-pos : (n v : ℕ) → v < 2 ^ n → Whole n (pos v)
whole-pos n v l =
    let z : suc n - 1 ≡ n = omega arith in
    let some : 0 < 2 ^ n = pow_pos n in
    let g : pos 0 -ℤ pos (2 ^ n) ≡ negsuc (2 ^ n - 1) = omega (arith, ints, some) in
    record { flag = rw (z, g, lt-ltb v (2 ^ n) l) refl; same = rw (z, g, lt-ltb v (2 ^ n) l) refl }

whole-negative : (n v : ℕ) → v < 2 ^ n → Whole n (negsuc v)
whole-negative n v l =
    let z : suc n - 1 ≡ n = omega arith in
    let some : 0 < 2 ^ n = pow_pos n in
    let g : pos 0 -ℤ pos (2 ^ n) ≡ negsuc (2 ^ n - 1) = omega (arith, ints, some) in
    record { flag = rw (z, g, le-ltb (2 ^ n - 1) v (omega arith)) refl; same = rw (z, g, le-ltb (2 ^ n - 1) v (omega arith)) refl }

whole-more : (n v : ℕ) (r : Bool) → v < 2 ^ n → Whole n (negsuc v +ℤ pos (from_bool r))
whole-more n v false l = rw (plus-zero (negsuc v)) (whole-negative n v l)
whole-more n zero true l = whole-pos n 0 (pow_pos n)
whole-more n (suc v) true l = let e : negsuc (suc v) +ℤ pos 1 ≡ negsuc v = omega (arith, ints) in rw e (whole-negative n v (omega arith))

-- the number just above the range becomes the largest one
record Beyond (n : ℕ) : Type 0 where
  flag : clips (suc n) (pos (2 ^ n)) ≡ true
  value : low_int (suc n) (clipped (suc n) (pos (2 ^ n))) ≡ 2 ^ n - 1

beyond : (n : ℕ) → Beyond n
beyond n =
    let z : suc n - 1 ≡ n = omega arith in
    let some : 0 < 2 ^ n = pow_pos n in
    let d : 2 ^ suc n ≡ 2 ^ n * 2 = pow-suc 2 n in
    let g : pos 0 -ℤ pos (2 ^ n) ≡ negsuc (2 ^ n - 1) = omega (arith, ints, some) in
    let over : ltb (2 ^ n) (2 ^ n) ≡ false = le-ltb (2 ^ n) (2 ^ n) (omega arith) in
    let one : pos (2 ^ n) -ℤ pos 1 ≡ pos (2 ^ n - 1) = omega (arith, ints, some) in
    record { flag = rw (z, g, over) refl; value = rw (z, g, over, one) (low-small (suc n) (2 ^ n - 1) (omega (arith, d, some))) }

-- ---- the three sizes of a product

-- The two bits that tell that it is too large, and what is made of its rounded number.
pub record Told (mode w n : ℕ) (z : ℤ) : Type 0 where
  pub flag : not (bit_of_int z (w + n)) && bit_of_int z (n + n) ≡ clips w (rounded mode z n)
  pub value : cond (not (bit_of_int z (w + n)) && bit_of_int z (n + n)) (2 ^ n - 1) (low_int w (rounded mode z n)) ≡ low_int w (clipped w (rounded mode z n))

told-whole : (mode n : ℕ) (z : ℤ) → not (bit_of_int z (suc n + n)) && bit_of_int z (n + n) ≡ false → Whole n (rounded mode z n) → Told mode (suc n) n z
told-whole mode n z none w = record { flag = none ∙ sym w.flag; value = rw (none, w.same) refl }

-- at most 2^n less one times 2^n
small-bound : (mode n m : ℕ) → m + 2 ^ n ≤ 2 ^ n * 2 ^ n → m / 2 ^ n + from_bool (increment_of mode (pos m) n) < 2 ^ n
small-bound mode n m room = by (2 ^ n) (pow_pos n) refl
  where
    one-more : (q h : ℕ) (r : Bool) → q < h - 1 → q + from_bool r < h
    one-more q h true l = omega arith
    one-more q h false l = omega arith

    no-more : (q h : ℕ) (r : Bool) → r ≡ false → q < h → q + from_bool r < h
    no-more q h true none l = absurd (cc)
    no-more q h false none l = omega arith

    last : (h : ℕ) → 0 < h → 2 ^ n ≡ h → m / h ≡ h - 1 → m ≡ (h - 1) * 2 ^ n
    last h some is q =
        let e = mod-add-div' m h in
        let t : m / h * h ≡ (h - 1) * h = ap (λ (x : ℕ). x * h) q in
        let b : (h - 1) * h + h ≡ h * h = ends h some in
        let r : m + h ≤ h * h = rw is at room in
        rw is (omega (arith, e, t, b, r))
      where
        ends : (h : ℕ) → 0 < h → (h - 1) * h + h ≡ h * h
        ends zero some = absurd (omega arith)
        ends (suc g) some = let z : suc g - 1 ≡ g = omega arith in rw z (omega arith)

    by : (h : ℕ) → 0 < h → 2 ^ n ≡ h → m / h + from_bool (increment_of mode (pos m) n) < h
    by h some is =
        let r : m + h ≤ h * h = rw is at room in
        let under : m < h * h = omega arith in
        let q : m / h < h = (div-lt_iff_lt-mul {k = h} {x = m} {y = h} some).1 under in
        ⊎_elim
        (λ (l : m / h < h - 1). one-more (m / h) h (increment_of mode (pos m) n) l)
        (λ (l : h - 1 ≤ m / h).
        let e : m ≡ (h - 1) * 2 ^ n = last h some is (omega arith) in
        let none : increment_of mode (pos m) n ≡ false = ap (λ (x : ℕ). increment_of mode (pos x) n) e ∙ multiple-whole mode (h - 1) n in
        no-more (m / h) h (increment_of mode (pos m) n) none q)
        (cases_lt (m / h) (h - 1))

small : (mode n m : ℕ) → m + 2 ^ n ≤ 2 ^ n * 2 ^ n → Told mode (suc n) n (pos m)
small mode n m room =
    let some : 0 < 2 ^ n = pow_pos n in
    let p : 2 ^ (n + n) ≡ 2 ^ n * 2 ^ n = pow-add 2 n n in
    let below : m < 2 ^ (n + n) = omega (arith, p, room, some) in
    told-whole mode n (pos m) (rw (above-none m (n + n) (n + n) below (omega arith)) (nothing (not (bit_of m (suc n + n))))) (whole-pos n (m / 2 ^ n + from_bool (increment_of mode (pos m) n)) (small-bound mode n m room))
  where
    nothing : (x : Bool) → x && false ≡ false
    nothing true = refl
    nothing false = refl

negative : (mode n m : ℕ) → m < 2 ^ n * 2 ^ n → Told mode (suc n) n (negsuc m)
negative mode n m less =
    let some : 0 < 2 ^ n = pow_pos n in
    let p : 2 ^ (n + n) ≡ 2 ^ n * 2 ^ n = pow-add 2 n n in
    let below : m < 2 ^ (n + n) = omega (arith, p, less) in
    let q : m / 2 ^ n < 2 ^ n = (div-lt_iff_lt-mul {k = 2 ^ n} {x = m} {y = 2 ^ n} some).1 less in
    told-whole mode n (negsuc m) (rw (above-none m (n + n) (suc n + n) below (omega arith)) refl) (whole-more n (m / 2 ^ n) (increment_of mode (negsuc m) n) q)

most : (mode n : ℕ) → Told mode (suc n) n (pos (2 ^ n * 2 ^ n))
most mode n =
    let some : 0 < 2 ^ n = pow_pos n in
    let p : 2 ^ n * 2 ^ n ≡ 2 ^ (n + n) = sym (pow-add 2 n n) in
    let top : bit_of (2 ^ n * 2 ^ n) (n + n) ≡ true = ap (λ (x : ℕ). bit_of x (n + n)) p ∙ power-bit (n + n) in
    let twice : 2 ^ (n + n) < 2 ^ suc (n + n) = let d = pow-suc 2 (n + n) in let s : 0 < 2 ^ (n + n) = pow_pos (n + n) in omega (arith, d, s) in
    let over : bit_of (2 ^ n * 2 ^ n) (suc n + n) ≡ false = ap (λ (x : ℕ). bit_of x (suc n + n)) p ∙ above-none (2 ^ (n + n)) (suc (n + n)) (suc n + n) twice (omega arith) in
    let q : 2 ^ n * 2 ^ n / 2 ^ n ≡ 2 ^ n = mul-div_cancel (2 ^ n) some in
    let r : rounded mode (pos (2 ^ n * 2 ^ n)) n ≡ pos (2 ^ n) = rw (multiple-whole mode (2 ^ n) n, q) (plus-zero (pos (2 ^ n))) in
    let flag : not (bit_of (2 ^ n * 2 ^ n) (suc n + n)) && bit_of (2 ^ n * 2 ^ n) (n + n) ≡ true = rw (over, top) refl in
    let out = beyond n in
    record {
      flag = flag ∙ sym (ap (clips (suc n)) r ∙ out.flag);
      value = ap (λ (b : Bool). cond b (2 ^ n - 1) (low_int (suc n) (rounded mode (pos (2 ^ n * 2 ^ n)) n))) flag
          ∙ sym (ap (λ (x : ℤ). low_int (suc n) (clipped (suc n) x)) r ∙ out.value);
    }
  where
    power-bit : (k : ℕ) → bit_of (2 ^ k) k ≡ true
    power-bit k =
        let e : 2 ^ k ≡ 1 * 2 ^ k + 0 = omega arith in
        let y : k - k ≡ 0 = omega arith in
        let s : 0 < 2 ^ k = pow_pos k in
        let c : bit_at (1 * 2 ^ k + 0) k ≡ bit_at 1 (k - k) = bit_at_cat_high 1 k 0 k s (omega arith) in
        ap (λ (x : ℕ). bit_of x k) e ∙ ap (λ (x : ℕ). eqb x 1) c ∙ ap (λ (x : ℕ). eqb (bit_at 1 x) 1) y

-- the same for every product of two numbers of w bits
pub told : (mode w a b : ℕ) → 0 < w → a < 2 ^ w → b < 2 ^ w → Told mode w (w - 1) (signed w a *ℤ signed w b)
told mode zero a b some la lb = absurd (omega arith)
told mode (suc n) a b some la lb =
    let z : n ≡ suc n - 1 = omega arith in
    subst (λ (k : ℕ). Told mode (suc n) k (signed (suc n) a *ℤ signed (suc n) b)) z (sized n a b la lb (Told mode (suc n) n) (small mode n) (negative mode n) (most mode n))
