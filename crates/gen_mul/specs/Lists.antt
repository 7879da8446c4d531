-- The lists of products. Round j of a product without a sign adds the first row to the high half where bit j of the second is
-- 1, and moves both halves down by one place.
use Rattle.std.specs.Prelude.{ℕ, zero, suc, ◌-◌, Bool, true, false, not, List, [], ◌∷◌, ◌++◌}
use Rattle.micro_ir.specs.Steps.{Step}
use Rattle.micro_ir.specs.WorkRows.{carry_row, broadcast_row, truth_row}
use Rattle.micro_ir.specs.Pieces.{clear, commit, broadcast}
use Rattle.gen_arith.specs.Recipes.{odd_on, most_on, odd_not_on, borrow_on}
use Rattle.gen_shift.specs.Rows.{is_odd}
use Rattle.row_sums.specs.Sums.{total_row, half_role, half_after, sum_from, total, halved}
use Rattle.gen_mul.specs.declared.rows.TheConstants.{HIGH_ROW, CORRECTED_ROW}
use Rattle.gen_mul.specs.declared.kinds.Product.{Product}
use Rattle.gen_mul.specs.declared.kinds.Product.TheVariants.{Mul, Mulhu, Mulhsu, Mulh, Macc, Nmsac}

-- ---- rows

abbrev pub high_row : ℕ
high_row = HIGH_ROW

-- the high half of a product of numbers with signs
abbrev pub corrected_row : ℕ
corrected_row = CORRECTED_ROW

-- ---- tables of the carry, a bit, and two bits that count together where both are 1

abbrev pub gated : (row x : ℕ) → List ℕ
gated row x = carry_row ∷ row ∷ x ∷ broadcast_row ∷ []

-- one or three of the three are 1
abbrev pub gated_sum_on : List ℕ
gated_sum_on = 1 ∷ 2 ∷ 5 ∷ 6 ∷ 9 ∷ 10 ∷ 12 ∷ 15 ∷ []

-- two or three of them are 1
abbrev pub gated_carry_on : List ℕ
gated_carry_on = 3 ∷ 7 ∷ 11 ∷ 13 ∷ 14 ∷ 15 ∷ []

-- the borrow of the bit less the two
abbrev pub gated_borrow_on : List ℕ
gated_borrow_on = 1 ∷ 5 ∷ 9 ∷ 12 ∷ 13 ∷ 15 ∷ []

-- ---- the product without a sign

-- the rows q and r are those of the low half before and after the round
unfoldable pub product_round : (w a b q r j : ℕ) → List Step
product_round w a b q r j =
    broadcast w b j ++ (total w (gated high_row a) gated_sum_on gated_carry_on total_row truth_row
    ++ (halved w total_row high_row truth_row (w - 1) 0 ++ halved w q r total_row 0 (w - 1)))

unfoldable pub product_rounds : (w a b n : ℕ) → List Step
product_rounds w a b zero = []
product_rounds w a b (suc n) = product_rounds w a b n ++ product_round w a b (half_role (is_odd n)) (half_role (not (is_odd n))) n

unfoldable pub multiplying : (w a b : ℕ) → List Step
multiplying w a b = clear w high_row ∷ clear w (half_role false) ∷ product_rounds w a b w

-- ---- signs and addends

-- row x is taken from the row `high` where row y is negative
unfoldable pub correcting : (w x y high out : ℕ) → List Step
correcting w x y high out = broadcast w y (w - 1) ++ sum_from w [] [] (gated high x) gated_sum_on gated_borrow_on out

-- the high half where row a is negative, and where both rows are
abbrev pub both_corrections : (w a b : ℕ) → List Step
both_corrections w a b = correcting w b a high_row total_row ++ correcting w a b total_row corrected_row

-- the low half and the addend
unfoldable pub adding : (w addend : ℕ) → List Step
adding w addend = sum_from w [] [] (carry_row ∷ half_after w ∷ addend ∷ []) odd_on most_on total_row

-- the low half inverted, the addend and 1
unfoldable pub taking : (w addend : ℕ) → List Step
taking w addend = sum_from w [] (0 ∷ []) (carry_row ∷ half_after w ∷ addend ∷ []) odd_not_on borrow_on total_row

-- ---- the kinds

-- whether the kind has an addend
abbrev pub adds : Product → Bool
adds Macc = true
adds Nmsac = true
adds _ = false

-- what the kind makes of the halves, and where
abbrev pub finishing : Product → (w a b addend : ℕ) → List Step
finishing Mul w a b addend = []
finishing Mulhu w a b addend = []
finishing Mulhsu w a b addend = correcting w b a high_row total_row
finishing Mulh w a b addend = both_corrections w a b
finishing Macc w a b addend = adding w addend
finishing Nmsac w a b addend = taking w addend

abbrev pub result_row : Product → (w : ℕ) → ℕ
result_row Mul w = half_after w
result_row Mulhu w = high_row
result_row Mulhsu w = total_row
result_row Mulh w = corrected_row
result_row Macc w = total_row
result_row Nmsac w = total_row

-- into the register `to`
unfoldable pub product_steps : Product → (w a b addend to : ℕ) → List Step
product_steps kind w a b addend to = (multiplying w a b ++ finishing kind w a b addend) ++ commit w (result_row kind w) to
