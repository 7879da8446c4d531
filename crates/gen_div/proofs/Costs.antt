-- What the lists of divisions cost, how long they are, and that a chain can run them.
use Rattle.std.proofs.Common.{◌≡◌, ℕ, ◌+◌, ◌-◌, ◌*◌, ◌<◌, ◌≤◌, true, false, not, List, [], ◌∷◌, ◌++◌, zero, suc, refl, arith}
use Rattle.micro_ir.specs.Measures.{Measured}
use Rattle.micro_ir.specs.Pieces.{above, clear, commit, downs, broadcast, everywhere}
use Rattle.micro_ir.specs.Steps.{Step, micros}
use Rattle.micro_ir.specs.WorkRows.{carry_row, broadcast_row, truth_row, left_row, right_row}
use Rattle.gen_arith.specs.Recipes.{odd_on, first_on}
use Rattle.gen_shift.specs.Rows.{is_odd}
use Rattle.row_sums.specs.Sums.{total_row, half_role, half_after, total, total_length, ripple_length, shifted_once, doubled}
use Rattle.row_sums.proofs.Kept.{role-row}
use Rattle.row_sums.proofs.Costs.{Sized, sized-append, sized-as, measured, none-sized, clear-sized, commit-sized, downs-sized, broadcast-sized, total-sized, sum_from-sized, once-sized, doubled-sized}
use Rattle.gen_div.specs.declared.kinds.Division.{Division}
use Rattle.gen_div.specs.declared.kinds.Division.TheVariants.{Divu, Remu, Div, Rem}
use Rattle.gen_div.specs.Lists.{moved_row, rest_row, borrow_row, nonzero_row, borrow_last_on, fits_on, entering, choosing, division_round, division_rounds, dividing, negate_on, negating, by_sign, magnitudes, gathering, quotient_sign, quotient_signs, starting, finishing, result_row, division_steps}
use Rattle.gen_div.specs.Kinds.{division_counts, division_length, negating_length, starting_length, finishing_length}

-- ---- lengths of the parts

pub total-size : (w : ℕ) → 0 < w → total_length w odd_on borrow_last_on ≡ 11 * w + 5
total-size w pos = omega arith

pub negating-size : (w : ℕ) → 0 < w → 6 + ripple_length w odd_on negate_on ≡ negating_length w
negating-size w pos = omega arith

pub division-size : (kind : Division) (w : ℕ) → starting_length kind w + (finishing_length kind w + 4) ≡ division_length kind w
division-size Divu w = omega arith
division-size Remu w = omega arith
division-size Div w = omega arith
division-size Rem w = omega arith

-- no list of a division is longer
pub division-few : (kind : Division) (w : ℕ) → division_length kind w ≤ w * (14 * w + 75) + 19
division-few Divu w = omega arith
division-few Remu w = omega arith
division-few Div w = omega arith
division-few Rem w = omega arith

-- ---- the division without signs

entering-sized : (w q r : ℕ) → 1 < w → w ≤ 32 → r < 64 → Sized 7 7 (w + 1) 17 (entering w q r)
entering-sized w q r wide few low =
    let d = doubled w rest_row moved_row q in
    let two = clear w truth_row ∷ above (rest_row ∷ []) (1 ∷ []) truth_row (w - 1) 0 ∷ [] in
    let mid : Sized 2 2 0 4 two = record { cost = refl; long = refl; rows = (omega arith, omega arith, (omega arith, omega arith, tt)) } in
    sized-as (sized-append d (two ++ shifted_once w true q r) (doubled-sized w rest_row moved_row q (omega arith) wide few) (sized-append two (shifted_once w true q r) mid (once-sized w true q r low)))
    refl refl (omega arith) refl

choosing-sized : (n r : ℕ) → r < 64 → Sized (n + 10) (n + 5) n (3 * n + 15) (choosing (suc n) r)
choosing-sized n r low =
    let w = suc n in
    let z : suc n - 1 ≡ n = omega arith in
    let first = clear w broadcast_row ∷ above (truth_row ∷ borrow_row ∷ []) fits_on broadcast_row (w - 1) 0 ∷ [] in
    let down = downs broadcast_row (w - 1) in
    let tail = clear w rest_row ∷ everywhere w (broadcast_row ∷ total_row ∷ moved_row ∷ []) first_on rest_row true ∷ above (broadcast_row ∷ []) (1 ∷ []) r 0 0 ∷ [] in
    let one : Sized 4 2 0 6 first = record { cost = refl; long = refl; rows = (omega arith, omega arith, (omega arith, omega arith, tt)) } in
    let two : Sized n n n (3 * n) down = rw z (downs-sized broadcast_row n (omega arith)) in
    let three : Sized 6 3 0 9 tail = record { cost = refl; long = refl; rows = (omega arith, omega arith, (omega arith, omega arith, (low, omega arith, tt))) } in
    sized-as (sized-append first (down ++ tail) one (sized-append down tail two three)) (omega arith) (omega arith) (omega arith) (omega arith)

round-sized : (n b q r : ℕ) → 0 < n → n ≤ 31 → r < 64 → Sized (9 * n + 28) (3 * n + 17) (3 * n + 2) (14 * n + 48) (division_round (suc n) b q r)
unfolding division_round
round-sized n b q r some few low =
    let w = suc n in
    let inputs = moved_row ∷ b ∷ carry_row ∷ [] in
    let adds = total w inputs odd_on borrow_last_on total_row borrow_row in
    let z : suc n - 1 ≡ n = omega arith in
    sized-as (sized-append (entering w q r) (adds ++ choosing w r) (entering-sized w q r (omega arith) (omega arith) low)
    (sized-append adds (choosing w r) (total-sized n inputs 1 (2 ∷ 4 ∷ 7 ∷ []) 2 (4 ∷ 6 ∷ 7 ∷ []) total_row borrow_row (omega arith) (omega arith)) (choosing-sized n r low)))
    (omega arith) (omega arith) (omega arith) (omega (arith, z))

rounds-sized : (n b j : ℕ) → 0 < n → n ≤ 31 → Sized (j * (9 * n + 28)) (j * (3 * n + 17)) (j * (3 * n + 2)) (j * (14 * n + 48)) (division_rounds (suc n) b j)
unfolding division_rounds
rounds-sized n b zero some few = sized-as none-sized (omega arith) (omega arith) (omega arith) (omega arith)
rounds-sized n b (suc j) some few =
    sized-as (sized-append (division_rounds (suc n) b j) (division_round (suc n) b (half_role (is_odd j)) (half_role (not (is_odd j)))) (rounds-sized n b j some few)
    (round-sized n b (half_role (is_odd j)) (half_role (not (is_odd j))) some few (role-row (not (is_odd j)))))
    (omega arith) (omega arith) (omega arith) (omega arith)

dividing-sized : (n a b : ℕ) → 0 < n → n ≤ 31
    → Sized (3 + suc n * (9 * n + 28)) (3 + suc n * (3 * n + 17)) (suc n * (3 * n + 2)) (6 + suc n * (14 * n + 48)) (dividing (suc n) a b)
unfolding dividing
dividing-sized n a b some few =
    let w = suc n in
    let first = clear w rest_row ∷ clear w (half_role false) ∷ everywhere w (a ∷ []) (1 ∷ []) (half_role false) true ∷ [] in
    let three : Sized 3 3 0 6 first = record { cost = refl; long = refl; rows = (omega arith, omega arith, (omega arith, omega arith, (omega arith, omega arith, tt))) } in
    sized-as (sized-append first (division_rounds w b w) three (rounds-sized n b w some few)) refl refl (omega arith) refl

-- ---- signs

sign-in : Sized 1 1 0 2 (above (broadcast_row ∷ []) (1 ∷ []) carry_row 0 0 ∷ [])
sign-in = record { cost = refl; long = refl; rows = (omega arith, omega arith, tt) }

negating-sized : (n x out : ℕ) → out < 64 → Sized (6 * n + 7) (2 * n + 4) n (9 * n + 11) (negating (suc n) x out)
unfolding negating
negating-sized n x out low =
    let z : suc n - 1 ≡ n = omega arith in
    sized-as (sum_from-sized n (broadcast_row ∷ []) (1 ∷ []) (x ∷ broadcast_row ∷ carry_row ∷ []) 1 (2 ∷ 4 ∷ 7 ∷ []) 5 (6 ∷ []) out low sign-in)
    (omega arith) (omega arith) refl (omega (arith, z))

by_sign-sized : (n y x out : ℕ) → out < 64 → Sized (7 * n + 9) (3 * n + 6) (2 * n) (12 * n + 15) (by_sign (suc n) y x out)
by_sign-sized n y x out low =
    let w = suc n in
    let z : suc n - 1 ≡ n = omega arith in
    sized-as (sized-append (broadcast w y (w - 1)) (negating w x out) (broadcast-sized w y (w - 1) (omega arith)) (negating-sized n x out low))
    (omega arith) (omega arith) (omega arith) (omega arith)

magnitudes-sized : (n a b : ℕ) → 0 < n → n ≤ 31
    → Sized (14 * n + 21 + suc n * (9 * n + 28)) (6 * n + 15 + suc n * (3 * n + 17)) (4 * n + suc n * (3 * n + 2)) (24 * n + 36 + suc n * (14 * n + 48)) (magnitudes (suc n) a b)
unfolding magnitudes
magnitudes-sized n a b some few =
    let w = suc n in
    sized-as (sized-append (by_sign w a a left_row) (by_sign w b b right_row ++ dividing w left_row right_row) (by_sign-sized n a a left_row (omega arith))
    (sized-append (by_sign w b b right_row) (dividing w left_row right_row) (by_sign-sized n b b right_row (omega arith)) (dividing-sized n left_row right_row some few)))
    (omega arith) (omega arith) (omega arith) (omega arith)

gathering-sized : (row b n : ℕ) → row < 64 → Sized (3 * n) n n (5 * n) (gathering row b n)
unfolding gathering
gathering-sized row b zero low = none-sized
gathering-sized row b (suc n) low =
    let one : Sized 3 1 1 5 (above (row ∷ b ∷ []) (1 ∷ 2 ∷ 3 ∷ []) row n 1 ∷ []) = record { cost = refl; long = refl; rows = (low, omega arith, tt) } in
    sized-as (sized-append (gathering row b n) (above (row ∷ b ∷ []) (1 ∷ 2 ∷ 3 ∷ []) row n 1 ∷ []) (gathering-sized row b n low) one) (omega arith) (omega arith) (omega arith) (omega arith)

signs-sized : (n a b : ℕ) → Sized (4 * n + 5) (2 * n + 3) (2 * n) (8 * n + 8) (quotient_signs (suc n) a b)
unfolding quotient_signs
signs-sized n a b =
    let w = suc n in
    let z : suc n - 1 ≡ n = omega arith in
    let list = gathering nonzero_row b (w - 1) in
    let mid = clear w broadcast_row ∷ quotient_sign w a b ∷ [] in
    let down = downs broadcast_row (w - 1) in
    let one : Sized (3 * n) n n (5 * n) list = rw z (gathering-sized nonzero_row b n (omega arith)) in
    let two : Sized 4 2 0 6 mid = record { cost = refl; long = refl; rows = (omega arith, omega arith, (omega arith, omega arith, tt)) } in
    let three : Sized n n n (3 * n) down = rw z (downs-sized broadcast_row n (omega arith)) in
    sized-as (sized-append (clear w nonzero_row ∷ []) (list ++ (mid ++ down)) (clear-sized w nonzero_row (omega arith)) (sized-append list (mid ++ down) one (sized-append mid down two three)))
    (omega arith) (omega arith) (omega arith) (omega arith)

-- ---- the kinds

abbrev whole : Division → (w a b to : ℕ) → List Step
whole kind w a b to = (starting kind w a b ++ finishing kind w a b) ++ commit w (result_row kind w) to

-- a kind, by its parts
kind-sized : (kind : Division) (w a b to : ℕ) {s u p m t v q l : ℕ} → to < 32 → Sized s u p m (starting kind w a b) → Sized t v q l (finishing kind w a b)
    → Sized (s + t + 2) (u + v + 2) (p + q + 0) (m + l + 4) (whole kind w a b to)
kind-sized kind w a b to register first rest =
    sized-append (starting kind w a b ++ finishing kind w a b) (commit w (result_row kind w) to) (sized-append (starting kind w a b) (finishing kind w a b) first rest) (commit-sized w (result_row kind w) to register)

sized-kind : (kind : Division) (n a b to : ℕ) → 0 < n → n ≤ 31 → to < 32
    → (let c = division_counts kind (suc n) in Sized c.searches c.updates c.passes (division_length kind (suc n)) (whole kind (suc n) a b to))
sized-kind Divu n a b to some few register =
    sized-as (kind-sized Divu (suc n) a b to register (dividing-sized n a b some few) none-sized) (omega arith) (omega arith) (omega arith) (omega arith)
sized-kind Remu n a b to some few register =
    sized-as (kind-sized Remu (suc n) a b to register (dividing-sized n a b some few) none-sized) (omega arith) (omega arith) (omega arith) (omega arith)
sized-kind Div n a b to some few register =
    let w = suc n in
    let last = sized-append (quotient_signs w a b) (negating w (half_after w) total_row) (signs-sized n a b) (negating-sized n (half_after w) total_row (omega arith)) in
    sized-as (kind-sized Div (suc n) a b to register (magnitudes-sized n a b some few) last) (omega arith) (omega arith) (omega arith) (omega arith)
sized-kind Rem n a b to some few register =
    sized-as (kind-sized Rem (suc n) a b to register (magnitudes-sized n a b some few) (by_sign-sized n a rest_row total_row (omega arith))) (omega arith) (omega arith) (omega arith) (omega arith)

pub division-measured : (kind : Division) (w a b to : ℕ) → 1 < w → w ≤ 32 → to < 32 → Measured (division_counts kind w) (division_length kind w) (micros w (division_steps kind w a b to))
unfolding division_steps
division-measured kind zero a b to wide few register = absurd (omega arith)
division-measured kind (suc n) a b to wide few register = measured (suc n) (whole kind (suc n) a b to) (sized-kind kind n a b to (omega arith) (omega arith) register)
