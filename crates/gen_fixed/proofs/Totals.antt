-- Sums and differences with the bit beyond the highest one.
use Rattle.std.proofs.Common.{◌≡◌, ℕ, zero, suc, ◌+◌, ◌-◌, ◌^◌, ◌<◌, ◌≤◌, Bool, true, false, cond, ltb, ◌||◌, ℤ, pos, ◌+ℤ◌, ◌-ℤ◌, List, [], ◌∷◌, refl, sym, ◌∙◌, ap, arith}
use Rattle.std.proofs.lemmas.Int.{ints}
use Rattle.std.proofs.lemmas.Bool.{lt-ltb, le-ltb}
use Rattle.bit_laws.specs.Numbers.{number}
use Rattle.bit_laws.specs.Rounding.{bit_of_int}
use Rattle.bit_laws.proofs.Numbers.{number-same}
use Rattle.bit_laws.proofs.Ints.{with_sign, bit-signed, signed-is}
use Rattle.micro_ir.specs.Steps.{step_on, steps_on}
use Rattle.micro_ir.specs.WorkRows.{carry_row, truth_row}
use Rattle.micro_ir.specs.Pieces.{above, clear}
use Rattle.micro_ir.proofs.OneElement.{step-row, clear-here, above-else, above-here}
use Rattle.micro_ir.proofs.StepLists.{steps_on-append}
use Rattle.gen_arith.specs.Recipes.{ripple, odd_on, most_on, most_not_on, borrow_on}
use Rattle.gen_arith.proofs.Rows.{finds, carried}
use Rattle.gen_arith.proofs.Numbers.{adder}
use Rattle.gen_shift.specs.Rows.{is_among}
use Rattle.gen_shift.proofs.Stays.{Within, within-append}
use Rattle.row_sums.specs.Sums.{total_row}
use Rattle.row_sums.proofs.Kept.{kept}
use Rattle.row_sums.proofs.Totals.{rippled, ripple-only}
use Rattle.row_sums.proofs.Numbers.{borrower}
use Rattle.gen_fixed.specs.Lists.{operands, carries_of, sign_of_sum_on, beyond_on, beyond}
use Rattle.gen_fixed.specs.Kinds.{exact}
use Rattle.gen_fixed.proofs.Operands.{fewer, reads, blind, total_rows}

-- the digits
abbrev pub total_bits : (carries : List ℕ) (x y : ℕ → Bool) → ℕ → Bool
total_bits carries x y i = finds odd_on (carried carries false x y i) (x i) (y i)

-- the bit beyond, by a table of the carry into the highest bit and of the operands there
abbrev pub beyond_bit : (carries last : List ℕ) (w : ℕ) (x y : ℕ → Bool) → Bool
beyond_bit carries last w x y = finds last (carried carries false x y (w - 1)) (x (w - 1)) (y (w - 1))

-- what the list leaves
pub record Beyond (carries last : List ℕ) (w : ℕ) (x y : ℕ → Bool) (now : ℕ → ℕ → Bool) : Type 0 where
  pub digits : (i : ℕ) → i < w → now total_row i ≡ total_bits carries x y i
  pub top : now truth_row (w - 1) ≡ beyond_bit carries last w x y
  pub low : (i : ℕ) → i < w - 1 → now truth_row i ≡ false

pub beyond-only : (rows : List ℕ) (carries last : List ℕ) (w a b : ℕ) → is_among rows carry_row ≡ true → is_among rows total_row ≡ true → is_among rows truth_row ≡ true
    → Within rows (beyond carries last w a b)
beyond-only rows carries last w a b c t k =
    (c, (t, (k, within-append rows (ripple w (operands a b) odd_on carries carry_row total_row w) (above (operands a b) last truth_row (w - 1) 0 ∷ []) (ripple-only rows w (operands a b) odd_on carries carry_row total_row w c t) (k, tt))))

or_no : (b : Bool) → b || false ≡ b
or_no true = refl
or_no false = refl

pub beyond-on : (carries last : List ℕ) (w a b : ℕ) (e : ℕ → ℕ → Bool) → is_among total_rows a ≡ false → is_among total_rows b ≡ false → 0 < w
    → Beyond carries last w (e a) (e b) (steps_on (beyond carries last w a b) e)
unfolding steps_on
beyond-on carries last w a b e a_off b_off some =
    let e1 = step_on (clear w carry_row) e in
    let e2 = step_on (clear w total_row) e1 in
    let e3 = step_on (clear w truth_row) e2 in
    let rip = ripple w (operands a b) odd_on carries carry_row total_row w in
    let e4 = steps_on rip e3 in
    let one = above (operands a b) last truth_row (w - 1) 0 in
    let two : List ℕ = carry_row ∷ total_row ∷ [] in
    let a_two = fewer two total_rows a refl a_off in
    let b_two = fewer two total_rows b refl b_off in
    let same : (r : ℕ) → is_among total_rows r ≡ false → e3 r ≡ e r = λ r q. kept total_rows (clear w carry_row ∷ clear w total_row ∷ clear w truth_row ∷ []) e r (refl, (refl, (refl, tt))) q in
    let in_rip = ripple-only two w (operands a b) odd_on carries carry_row total_row w refl refl in
    let still : (r : ℕ) → is_among total_rows r ≡ false → e4 r ≡ e r = λ r q. kept two rip e3 r in_rip (fewer two total_rows r refl q) ∙ same r q in
    let c_off : (i : ℕ) → i < w → e3 carry_row i ≡ false =
    λ i l. step-row (clear w truth_row) e2 carry_row i (omega arith) ∙ step-row (clear w total_row) e1 carry_row i (omega arith) ∙ clear-here w carry_row e i l in
    let t_off : (i : ℕ) → i < w → e3 total_row i ≡ false = λ i l. step-row (clear w truth_row) e2 total_row i (omega arith) ∙ clear-here w total_row e1 i l in
    let k_off : (i : ℕ) → i < w → e4 truth_row i ≡ false = λ i l. (λ n. kept two rip e3 truth_row in_rip refl n i) ∙ clear-here w truth_row e2 i l in
    let p = rippled w carry_row total_row (operands a b) odd_on carries odd_on carries (λ f. f a) (λ f. f b) (reads odd_on a b) (reads carries a b) (blind two a a_two) (blind two b b_two) (omega arith) false e3 w (omega arith) t_off (c_off 0 some) (λ i l u. c_off i u) in
    let a3 = same a a_off in
    let b3 = same b b_off in
    let z : w - 1 + 0 ≡ w - 1 = omega arith in
    rw (steps_on-append rip (one ∷ []) e3) (record {
      digits = λ i l. step-row one e4 total_row i (omega arith) ∙ p.done i l ∙ rw (a3, b3) refl;
      top = ap (λ (n : ℕ). step_on one e4 truth_row n) (sym z) ∙ above-here (operands a b) last truth_row (w - 1) 0 e4
          ∙ rw (z, k_off (w - 1) (omega arith), reads last a b (λ r. e4 r (w - 1)), p.here (w - 1) (omega arith) (omega arith), still a a_off, still b b_off, a3, b3) (or_no _);
      low = λ i l. above-else (operands a b) last truth_row (w - 1) 0 e4 truth_row i (omega arith) ∙ k_off i (omega arith);
    })

-- ---- the exact sum or difference

-- Bits t below place w and k at place w are those of the number z.
abbrev pub Exact : (w : ℕ) → ℤ → (t : ℕ → Bool) → Bool → Type 0
Exact w z t k = (j : ℕ) → j ≤ w → bit_of_int z j ≡ cond (ltb j w) (t j) k

signed-exact : (w : ℕ) (z : ℤ) (t : ℕ → Bool) (k : Bool) → z ≡ with_sign w t k → Exact w z t k
signed-exact w z t k is j l = ap (λ z. bit_of_int z j) is ∙ bit-signed w t k j

-- without signs: the carry is the bit beyond
sum-exact : (w : ℕ) (x y : ℕ → Bool) → Exact w (pos (number w x) +ℤ pos (number w y)) (total_bits most_on x y) (carried most_on false x y w)
sum-exact w x y j l =
    let k = carried most_on false x y w in
    let t = total_bits most_on x y in
    let u : ℕ → Bool = λ j. cond (ltb j w) (t j) k in
    let low_same : number w u ≡ number w t = number-same w u t (λ i m. rw (lt-ltb i w m) refl) in
    let top : u w ≡ k = rw (le-ltb w w (omega arith)) refl in
    let s = adder w x y false in
    let v : number (suc w) u ≡ number w t + cond k (2 ^ w) 0 = rw (low_same, top) refl in
    let whole : number (suc w) u ≡ number w x + number w y = v ∙ omega (arith, s) in
    let z : pos (number w x) +ℤ pos (number w y) ≡ with_sign (suc w) u false = plus (number w x) (number w y) (number (suc w) u) (sym whole) in
    ap (λ z. bit_of_int z j) z ∙ bit-signed (suc w) u false j ∙ rw (lt-ltb j (suc w) (omega arith)) refl
  where
    plus : (a b c : ℕ) → a + b ≡ c → pos a +ℤ pos b ≡ pos c -ℤ pos 0
    plus a b c e = omega (arith, ints)

-- a borrow is the sign of the difference
pub difference-is : (w : ℕ) (x y : ℕ → Bool) → pos (number w x) -ℤ pos (number w y) ≡ with_sign w (total_bits borrow_on x y) (carried borrow_on false x y w)
difference-is w x y =
    less (number w x) (number w y) (number w (total_bits borrow_on x y)) (cond (carried borrow_on false x y w) (2 ^ w) 0) (borrower w x y)
  where
    less : (a b t c : ℕ) → t + b ≡ a + c → pos a -ℤ pos b ≡ pos t -ℤ pos c
    less a b t c e = omega (arith, ints)

-- with signs
add_signs : (c s r : Bool) (t a b p : ℕ) → t + cond (finds most_on c s r) p 0 ≡ a + b
    → (pos a -ℤ pos (cond s p 0)) +ℤ (pos b -ℤ pos (cond r p 0)) ≡ pos t -ℤ pos (cond (finds sign_of_sum_on c s r) p 0)
add_signs true true true t a b p e = omega (arith, ints)
add_signs true true false t a b p e = omega (arith, ints)
add_signs true false true t a b p e = omega (arith, ints)
add_signs true false false t a b p e = omega (arith, ints)
add_signs false true true t a b p e = omega (arith, ints)
add_signs false true false t a b p e = omega (arith, ints)
add_signs false false true t a b p e = omega (arith, ints)
add_signs false false false t a b p e = omega (arith, ints)

sub_signs : (c s r : Bool) (t a b p : ℕ) → t + b ≡ a + cond (finds borrow_on c s r) p 0
    → (pos a -ℤ pos (cond s p 0)) -ℤ (pos b -ℤ pos (cond r p 0)) ≡ pos t -ℤ pos (cond (finds most_not_on c s r) p 0)
sub_signs true true true t a b p e = omega (arith, ints)
sub_signs true true false t a b p e = omega (arith, ints)
sub_signs true false true t a b p e = omega (arith, ints)
sub_signs true false false t a b p e = omega (arith, ints)
sub_signs false true true t a b p e = omega (arith, ints)
sub_signs false true false t a b p e = omega (arith, ints)
sub_signs false false true t a b p e = omega (arith, ints)
sub_signs false false false t a b p e = omega (arith, ints)

top_of : (n : ℕ) → suc n - 1 ≡ n
top_of n = omega arith

-- of n + 1 bits
pub signed-exact-is : (sub : Bool) (n : ℕ) (x y : ℕ → Bool)
    → exact true sub (suc n) (number (suc n) x) (number (suc n) y)
    ≡ with_sign (suc n) (total_bits (carries_of sub) x y) (finds (beyond_on true sub) (carried (carries_of sub) false x y n) (x n) (y n))
signed-exact-is false n x y =
    let a = signed-is (suc n) x (omega arith) in
    let b = signed-is (suc n) y (omega arith) in
    let s = adder (suc n) x y false in
    let t : number (suc n) (total_bits most_on x y) + cond (carried most_on false x y (suc n)) (2 ^ suc n) 0 ≡ number (suc n) x + number (suc n) y = omega (arith, s) in
    rw (sym a, sym b, top_of n) (add_signs (carried most_on false x y n) (x n) (y n) (number (suc n) (total_bits most_on x y)) (number (suc n) x) (number (suc n) y) (2 ^ suc n) t)
signed-exact-is true n x y =
    let a = signed-is (suc n) x (omega arith) in
    let b = signed-is (suc n) y (omega arith) in
    rw (sym a, sym b, top_of n) (sub_signs (carried borrow_on false x y n) (x n) (y n) (number (suc n) (total_bits borrow_on x y)) (number (suc n) x) (number (suc n) y) (2 ^ suc n) (borrower (suc n) x y))

-- the bits of the list are those of the exact number
pub exact-is : (sign sub : Bool) (w : ℕ) (x y : ℕ → Bool) → 0 < w
    → Exact w (exact sign sub w (number w x) (number w y)) (total_bits (carries_of sub) x y) (beyond_bit (carries_of sub) (beyond_on sign sub) w x y)
exact-is sign sub zero x y some = absurd (omega arith)
exact-is false false (suc n) x y some = rw (top_of n) (sum-exact (suc n) x y)
exact-is false true (suc n) x y some =
    rw (top_of n) (signed-exact (suc n) (pos (number (suc n) x) -ℤ pos (number (suc n) y)) (total_bits borrow_on x y) (carried borrow_on false x y (suc n)) (difference-is (suc n) x y))
exact-is true sub (suc n) x y some =
    signed-exact (suc n) (exact true sub (suc n) (number (suc n) x) (number (suc n) y)) (total_bits (carries_of sub) x y) (beyond_bit (carries_of sub) (beyond_on true sub) (suc n) x y)
    (signed-exact-is sub n x y
    ∙ ap (λ m. with_sign (suc n) (total_bits (carries_of sub) x y) (finds (beyond_on true sub) (carried (carries_of sub) false x y m) (x m) (y m))) (sym (top_of n)))
