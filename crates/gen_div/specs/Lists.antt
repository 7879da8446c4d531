-- The lists of divisions. A round takes the dividend's next bit into the remainder, and takes the divisor from it where it fits.
use Rattle.std.specs.Prelude.{ℕ, zero, suc, ◌+◌, ◌-◌, true, false, not, List, [], ◌∷◌, ◌++◌}
use Rattle.micro_ir.specs.Steps.{Step}
use Rattle.micro_ir.specs.WorkRows.{carry_row, broadcast_row, truth_row, left_row, right_row}
use Rattle.micro_ir.specs.Pieces.{everywhere, above, clear, commit, downs, broadcast}
use Rattle.gen_arith.specs.Recipes.{odd_on, first_on}
use Rattle.gen_shift.specs.Rows.{is_odd}
use Rattle.row_sums.specs.Sums.{total_row, half_role, half_after, sum_from, total, shifted_once, doubled}
use Rattle.gen_div.specs.declared.rows.TheConstants.{MOVED_ROW, REST_ROW, NONZERO_ROW, BORROW_ROW}
use Rattle.gen_div.specs.declared.kinds.Division.{Division}
use Rattle.gen_div.specs.declared.kinds.Division.TheVariants.{Divu, Remu, Div, Rem}

-- ---- rows

-- the remainder so far, and it with the dividend's next bit
abbrev pub rest_row : ℕ
rest_row = REST_ROW

abbrev pub moved_row : ℕ
moved_row = MOVED_ROW

-- the borrow of the divisor
abbrev pub borrow_row : ℕ
borrow_row = BORROW_ROW

-- whether lower bits of the divisor are 1
abbrev pub nonzero_row : ℕ
nonzero_row = NONZERO_ROW

-- ---- the division without signs: the rows q and r are those of the quotient before and after the round

-- the dividend's next bit comes into the remainder, whose highest bit is kept beside it
abbrev pub entering : (w q r : ℕ) → List Step
entering w q r =
    doubled w rest_row moved_row q ++ (clear w truth_row ∷ above (rest_row ∷ []) (1 ∷ []) truth_row (w - 1) 0 ∷ shifted_once w true q r)

-- the borrow of the first of two bits less the second, beside a carry that comes last
abbrev pub borrow_last_on : List ℕ
borrow_last_on = 2 ∷ 4 ∷ 6 ∷ 7 ∷ []

-- the divisor fits: a bit left the remainder, or there is no borrow
abbrev pub fits_on : List ℕ
fits_on = 0 ∷ 1 ∷ 3 ∷ []

-- the difference where the divisor fits, and else what was there
abbrev pub choosing : (w r : ℕ) → List Step
choosing w r =
    clear w broadcast_row ∷ above (truth_row ∷ borrow_row ∷ []) fits_on broadcast_row (w - 1) 0
    ∷ (downs broadcast_row (w - 1)
    ++ (clear w rest_row ∷ everywhere w (broadcast_row ∷ total_row ∷ moved_row ∷ []) first_on rest_row true
    ∷ above (broadcast_row ∷ []) (1 ∷ []) r 0 0 ∷ []))

unfoldable pub division_round : (w b q r : ℕ) → List Step
division_round w b q r =
    entering w q r ++ (total w (moved_row ∷ b ∷ carry_row ∷ []) odd_on borrow_last_on total_row borrow_row ++ choosing w r)

unfoldable pub division_rounds : (w b n : ℕ) → List Step
division_rounds w b zero = []
division_rounds w b (suc n) = division_rounds w b n ++ division_round w b (half_role (is_odd n)) (half_role (not (is_odd n)))

unfoldable pub dividing : (w a b : ℕ) → List Step
dividing w a b =
    clear w rest_row ∷ clear w (half_role false) ∷ everywhere w (a ∷ []) (1 ∷ []) (half_role false) true ∷ division_rounds w b w

-- ---- signs

-- the carry of the carry and the bit, which the sign inverts
abbrev pub negate_on : List ℕ
negate_on = 5 ∷ 6 ∷ []

-- the number of row x, or its negative where the broadcast row is 1
unfoldable pub negating : (w x out : ℕ) → List Step
negating w x out = sum_from w (broadcast_row ∷ []) (1 ∷ []) (x ∷ broadcast_row ∷ carry_row ∷ []) odd_on negate_on out

-- the same where row y is negative
abbrev pub by_sign : (w y x out : ℕ) → List Step
by_sign w y x out = broadcast w y (w - 1) ++ negating w x out

-- the quotient and the remainder of two rows without their signs
unfoldable pub magnitudes : (w a b : ℕ) → List Step
magnitudes w a b = by_sign w a a left_row ++ (by_sign w b b right_row ++ dividing w left_row right_row)

-- whether the row is 1 at a bit, or row b is, into the bit above; the lowest n bits in rising order
unfoldable pub gathering : (row b n : ℕ) → List Step
gathering row b zero = []
gathering row b (suc n) = gathering row b n ++ above (row ∷ b ∷ []) (1 ∷ 2 ∷ 3 ∷ []) row n 1 ∷ []

-- the signs differ, and the divisor's sign or a lower bit of it is 1
abbrev pub unlike_signs_on : List ℕ
unlike_signs_on = 2 ∷ 5 ∷ 6 ∷ []

abbrev pub quotient_sign : (w a b : ℕ) → Step
quotient_sign w a b = above (a ∷ b ∷ nonzero_row ∷ []) unlike_signs_on broadcast_row (w - 1) 0

-- the sign of the quotient, which is 0 where the divisor is
unfoldable pub quotient_signs : (w a b : ℕ) → List Step
quotient_signs w a b =
    clear w nonzero_row ∷ (gathering nonzero_row b (w - 1) ++ clear w broadcast_row ∷ quotient_sign w a b ∷ downs broadcast_row (w - 1))

abbrev pub signed_quotient : (w a b : ℕ) → List Step
signed_quotient w a b = quotient_signs w a b ++ negating w (half_after w) total_row

-- ---- the kinds

-- the division without signs
abbrev pub starting : Division → (w a b : ℕ) → List Step
starting Divu w a b = dividing w a b
starting Remu w a b = dividing w a b
starting Div w a b = magnitudes w a b
starting Rem w a b = magnitudes w a b

-- what the kind makes of it, and where
abbrev pub finishing : Division → (w a b : ℕ) → List Step
finishing Divu w a b = []
finishing Remu w a b = []
finishing Div w a b = signed_quotient w a b
finishing Rem w a b = by_sign w a rest_row total_row

abbrev pub result_row : Division → (w : ℕ) → ℕ
result_row Divu w = half_after w
result_row Remu w = rest_row
result_row Div w = total_row
result_row Rem w = total_row

-- into the register `to`
unfoldable pub division_steps : Division → (w a b to : ℕ) → List Step
division_steps kind w a b to = (starting kind w a b ++ finishing kind w a b) ++ commit w (result_row kind w) to
