-- What the lists of products cost, how long they are, and that a chain can run them.
use Rattle.std.proofs.Common.{◌≡◌, ℕ, ◌+◌, ◌-◌, ◌*◌, ◌<◌, ◌≤◌, false, not, List, [], ◌∷◌, ◌++◌, zero, suc, refl, arith}
use Rattle.micro_ir.specs.Measures.{Measured}
use Rattle.micro_ir.specs.Pieces.{above, clear, commit, broadcast}
use Rattle.micro_ir.specs.Steps.{Step, micros}
use Rattle.micro_ir.specs.WorkRows.{carry_row, truth_row}
use Rattle.gen_arith.specs.Recipes.{odd_on, most_on, odd_not_on, borrow_on}
use Rattle.gen_shift.specs.Rows.{is_odd}
use Rattle.row_sums.specs.Sums.{total_row, half_role, half_after, sum_from, total, halved, total_length, ripple_length}
use Rattle.row_sums.proofs.Kept.{role-row}
use Rattle.row_sums.proofs.Costs.{Sized, sized-append, sized-as, measured, none-sized, commit-sized, broadcast-sized, total-sized, sum_from-sized, halved-sized, halved-far}
use Rattle.gen_mul.specs.declared.kinds.Product.{Product}
use Rattle.gen_mul.specs.declared.kinds.Product.TheVariants.{Mul, Mulhu, Mulhsu, Mulh, Macc, Nmsac}
use Rattle.gen_mul.specs.Lists.{high_row, corrected_row, gated, gated_sum_on, gated_carry_on, gated_borrow_on, product_round, product_rounds, multiplying, correcting, adding, taking, finishing, result_row, product_steps}
use Rattle.gen_mul.specs.Kinds.{product_counts, product_length, multiplying_length, correcting_length, adding_length, taking_length, finishing_length}

-- ---- lengths of the parts

pub total-size : (w : ℕ) → 0 < w → total_length w gated_sum_on gated_carry_on ≡ 17 * w + 5
total-size w pos = omega arith

pub correcting-size : (w : ℕ) → 0 < w → 3 * w + 1 + (4 + ripple_length w gated_sum_on gated_borrow_on) ≡ correcting_length w
correcting-size w pos = omega arith

pub adding-size : (w : ℕ) → 0 < w → 4 + ripple_length w odd_on most_on ≡ adding_length w
adding-size w pos = omega arith

pub taking-size : (w : ℕ) → 0 < w → 6 + ripple_length w odd_not_on borrow_on ≡ taking_length w
taking-size w pos = omega arith

pub product-size : (kind : Product) (w : ℕ) → 0 < w → multiplying_length w + (finishing_length kind w + 4) ≡ product_length kind w
product-size Mul w pos = omega arith
product-size Mulhu w pos = omega arith
product-size Mulhsu w pos = let z : 20 * w - 3 + 3 ≡ 20 * w = omega arith in omega (arith, z)
product-size Mulh w pos = let z : 20 * w - 3 + 3 ≡ 20 * w = omega arith in omega (arith, z)
product-size Macc w pos = omega arith
product-size Nmsac w pos = omega arith

-- no list of a product is longer
pub product-few : (kind : Product) (w : ℕ) → product_length kind w ≤ w * (20 * w + 61) + 8
product-few Mul w = omega arith
product-few Mulhu w = omega arith
product-few Mulhsu w = omega arith
product-few Mulh w = omega arith
product-few Macc w = omega arith
product-few Nmsac w = omega arith

-- ---- the product without a sign

round-sized : (n a b q r j : ℕ) → 0 < n → n ≤ 31 → j < suc n → r < 64 → Sized (15 * n + 25) (3 * n + 13) (3 * n + 2) (20 * n + 41) (product_round (suc n) a b q r j)
unfolding product_round
round-sized n a b q r j some few inside low =
    let w = suc n in
    let z : suc n - 1 ≡ n = omega arith in
    let adds = total w (gated high_row a) gated_sum_on gated_carry_on total_row truth_row in
    let p = halved w total_row high_row truth_row (w - 1) 0 in
    let l = halved w q r total_row 0 (w - 1) in
    let far : Sized 3 3 (n + 1) 8 l = rw z (halved-far w q r total_row 0 n low some few) in
    let sum = total-sized n (gated high_row a) 1 (2 ∷ 5 ∷ 6 ∷ 9 ∷ 10 ∷ 12 ∷ 15 ∷ []) 3 (7 ∷ 11 ∷ 13 ∷ 14 ∷ 15 ∷ []) total_row truth_row (omega arith) (omega arith) in
    sized-as (sized-append (broadcast w b j) (adds ++ (p ++ l)) (broadcast-sized w b j inside) (sized-append adds (p ++ l) sum (sized-append p l (halved-sized w total_row high_row truth_row (w - 1) (omega arith)) far)))
    (omega arith) (omega arith) (omega arith) (omega (arith, z))

rounds-sized : (n a b j : ℕ) → 0 < n → n ≤ 31 → j ≤ suc n → Sized (j * (15 * n + 25)) (j * (3 * n + 13)) (j * (3 * n + 2)) (j * (20 * n + 41)) (product_rounds (suc n) a b j)
unfolding product_rounds
rounds-sized n a b zero some few h = sized-as none-sized (omega arith) (omega arith) (omega arith) (omega arith)
rounds-sized n a b (suc j) some few h =
    sized-as (sized-append (product_rounds (suc n) a b j) (product_round (suc n) a b (half_role (is_odd j)) (half_role (not (is_odd j))) j) (rounds-sized n a b j some few (omega arith))
    (round-sized n a b (half_role (is_odd j)) (half_role (not (is_odd j))) j some few h (role-row (not (is_odd j)))))
    (omega arith) (omega arith) (omega arith) (omega arith)

pub multiplying-sized : (n a b : ℕ) → 0 < n → n ≤ 31
    → Sized (2 + suc n * (15 * n + 25)) (2 + suc n * (3 * n + 13)) (suc n * (3 * n + 2)) (4 + suc n * (20 * n + 41)) (multiplying (suc n) a b)
unfolding multiplying
multiplying-sized n a b some few =
    let w = suc n in
    let two : Sized 2 2 0 4 (clear w high_row ∷ clear w (half_role false) ∷ []) = record { cost = refl; long = refl; rows = (omega arith, omega arith, (omega arith, omega arith, tt)) } in
    sized-as (sized-append (clear w high_row ∷ clear w (half_role false) ∷ []) (product_rounds w a b w) two (rounds-sized n a b w some few (omega arith))) refl refl (omega arith) refl

-- ---- signs and addends

none-in : Sized 0 0 0 0 (above [] [] carry_row 0 0 ∷ [])
none-in = record { cost = refl; long = refl; rows = (omega arith, omega arith, tt) }

one-in : Sized 1 1 0 2 (above [] (0 ∷ []) carry_row 0 0 ∷ [])
one-in = record { cost = refl; long = refl; rows = (omega arith, omega arith, tt) }

pub correcting-sized : (n x y h out : ℕ) → out < 64 → Sized (15 * n + 12) (3 * n + 5) (2 * n) (20 * n + 17) (correcting (suc n) x y h out)
unfolding correcting
correcting-sized n x y h out low =
    let w = suc n in
    let z : suc n - 1 ≡ n = omega arith in
    let sum = sum_from-sized n [] [] (gated h x) 1 (2 ∷ 5 ∷ 6 ∷ 9 ∷ 10 ∷ 12 ∷ 15 ∷ []) 1 (5 ∷ 9 ∷ 12 ∷ 13 ∷ 15 ∷ []) out low none-in in
    sized-as (sized-append (broadcast w y (w - 1)) (sum_from w [] [] (gated h x) gated_sum_on gated_borrow_on out) (broadcast-sized w y (w - 1) (omega arith)) sum)
    (omega arith) (omega arith) (omega arith) (omega (arith, z))

adding-sized : (n d : ℕ) → Sized (8 * n + 6) (2 * n + 3) n (11 * n + 9) (adding (suc n) d)
unfolding adding
adding-sized n d =
    let z : suc n - 1 ≡ n = omega arith in
    sized-as (sum_from-sized n [] [] (carry_row ∷ half_after (suc n) ∷ d ∷ []) 1 (2 ∷ 4 ∷ 7 ∷ []) 3 (5 ∷ 6 ∷ 7 ∷ []) total_row (omega arith) none-in)
    (omega arith) (omega arith) refl (omega (arith, z))

taking-sized : (n d : ℕ) → Sized (8 * n + 7) (2 * n + 4) n (11 * n + 11) (taking (suc n) d)
unfolding taking
taking-sized n d =
    let z : suc n - 1 ≡ n = omega arith in
    sized-as (sum_from-sized n [] (0 ∷ []) (carry_row ∷ half_after (suc n) ∷ d ∷ []) 0 (3 ∷ 5 ∷ 6 ∷ []) 1 (4 ∷ 5 ∷ 7 ∷ []) total_row (omega arith) one-in)
    (omega arith) (omega arith) refl (omega (arith, z))

-- ---- the kinds

abbrev whole : Product → (w a b d to : ℕ) → List Step
whole kind w a b d to = (multiplying w a b ++ finishing kind w a b d) ++ commit w (result_row kind w) to

-- a kind, by what it makes of the product
kind-sized : (kind : Product) (n a b d to : ℕ) {s u p m : ℕ} → 0 < n → n ≤ 31 → to < 32 → Sized s u p m (finishing kind (suc n) a b d)
    → Sized (2 + suc n * (15 * n + 25) + s + 2) (2 + suc n * (3 * n + 13) + u + 2) (suc n * (3 * n + 2) + p + 0) (4 + suc n * (20 * n + 41) + m + 4) (whole kind (suc n) a b d to)
kind-sized kind n a b d to some few register rest =
    let w = suc n in
    sized-append (multiplying w a b ++ finishing kind w a b d) (commit w (result_row kind w) to)
    (sized-append (multiplying w a b) (finishing kind w a b d) (multiplying-sized n a b some few) rest) (commit-sized w (result_row kind w) to register)

sized-kind : (kind : Product) (n a b d to : ℕ) → 0 < n → n ≤ 31 → to < 32
    → (let c = product_counts kind (suc n) in Sized c.searches c.updates c.passes (product_length kind (suc n)) (whole kind (suc n) a b d to))
sized-kind Mul n a b d to some few register = sized-as (kind-sized Mul n a b d to some few register none-sized) (omega arith) (omega arith) (omega arith) (omega arith)
sized-kind Mulhu n a b d to some few register = sized-as (kind-sized Mulhu n a b d to some few register none-sized) (omega arith) (omega arith) (omega arith) (omega arith)
sized-kind Mulhsu n a b d to some few register =
    sized-as (kind-sized Mulhsu n a b d to some few register (correcting-sized n b a high_row total_row (omega arith))) (omega arith) (omega arith) (omega arith) (omega arith)
sized-kind Mulh n a b d to some few register =
    let one = correcting-sized n b a high_row total_row (omega arith) in
    let two = correcting-sized n a b total_row corrected_row (omega arith) in
    sized-as (kind-sized Mulh n a b d to some few register (sized-append (correcting (suc n) b a high_row total_row) (correcting (suc n) a b total_row corrected_row) one two))
    (omega arith) (omega arith) (omega arith) (omega arith)
sized-kind Macc n a b d to some few register = sized-as (kind-sized Macc n a b d to some few register (adding-sized n d)) (omega arith) (omega arith) (omega arith) (omega arith)
sized-kind Nmsac n a b d to some few register = sized-as (kind-sized Nmsac n a b d to some few register (taking-sized n d)) (omega arith) (omega arith) (omega arith) (omega arith)

pub product-measured : (kind : Product) (w a b d to : ℕ) → 1 < w → w ≤ 32 → to < 32 → Measured (product_counts kind w) (product_length kind w) (micros w (product_steps kind w a b d to))
unfolding product_steps
product-measured kind zero a b d to wide few register = absurd (omega arith)
product-measured kind (suc n) a b d to wide few register =
    measured (suc n) (whole kind (suc n) a b d to) (sized-kind kind n a b d to (omega arith) (omega arith) register)
