-- No step of a product leaves its element.
use Rattle.std.proofs.Common.{ℕ, ◌-◌, ◌<◌, ◌≤◌, false, not, [], ◌∷◌, ◌++◌, zero, suc, refl, arith}
use Rattle.micro_ir.specs.Pieces.{broadcast}
use Rattle.micro_ir.specs.Steps.{AllFit}
use Rattle.micro_ir.specs.WorkRows.{carry_row, truth_row}
use Rattle.micro_ir.proofs.Effects.{broadcast-fits}
use Rattle.micro_ir.proofs.Folds.{level-whole}
use Rattle.micro_ir.proofs.OneElement.{clear-fits}
use Rattle.micro_ir.proofs.StepLists.{AllFit-append}
use Rattle.gen_arith.specs.Recipes.{odd_on, most_on, odd_not_on, borrow_on}
use Rattle.gen_shift.specs.Rows.{is_odd}
use Rattle.row_sums.specs.Sums.{total_row, half_role, half_after, halved, total, sum_from}
use Rattle.row_sums.proofs.Fits.{total-fits, sum_from-fits, halved-fits}
use Rattle.gen_mul.specs.declared.kinds.Product.{Product}
use Rattle.gen_mul.specs.declared.kinds.Product.TheVariants.{Mul, Mulhu, Mulhsu, Mulh, Macc, Nmsac}
use Rattle.gen_mul.specs.Lists.{high_row, corrected_row, gated, gated_sum_on, gated_carry_on, gated_borrow_on, product_round, product_rounds, multiplying, correcting, adding, taking, finishing}

round-fits : (w a b q r j : ℕ) → 1 < w → j < w → AllFit w (product_round w a b q r j)
unfolding product_round
round-fits w a b q r j wide inside =
    let adds = total w (gated high_row a) gated_sum_on gated_carry_on total_row truth_row in
    let p = halved w total_row high_row truth_row (w - 1) 0 in
    let l = halved w q r total_row 0 (w - 1) in
    AllFit-append w (broadcast w b j) (adds ++ (p ++ l)) (broadcast-fits w b j inside)
    (AllFit-append w adds (p ++ l) (total-fits w (gated high_row a) gated_sum_on gated_carry_on total_row truth_row (omega arith) (level-whole (gated high_row a) gated_carry_on refl))
    (AllFit-append w p l (halved-fits w total_row high_row truth_row (w - 1) 0 wide (omega arith)) (halved-fits w q r total_row 0 (w - 1) wide (omega arith))))

rounds-fit : (w a b n : ℕ) → 1 < w → n ≤ w → AllFit w (product_rounds w a b n)
unfolding product_rounds
rounds-fit w a b zero wide h = tt
rounds-fit w a b (suc n) wide h =
    AllFit-append w (product_rounds w a b n) (product_round w a b (half_role (is_odd n)) (half_role (not (is_odd n))) n) (rounds-fit w a b n wide (omega arith))
    (round-fits w a b (half_role (is_odd n)) (half_role (not (is_odd n))) n wide (omega arith))

pub multiplying-fits : (w a b : ℕ) → 1 < w → AllFit w (multiplying w a b)
unfolding multiplying
multiplying-fits w a b wide = (clear-fits w high_row, (clear-fits w (half_role false), rounds-fit w a b w wide (omega arith)))

correcting-fits : (w x y high out : ℕ) → 0 < w → AllFit w (correcting w x y high out)
unfolding correcting
correcting-fits w x y high out pos =
    AllFit-append w (broadcast w y (w - 1)) (sum_from w [] [] (gated high x) gated_sum_on gated_borrow_on out) (broadcast-fits w y (w - 1) (omega arith))
    (sum_from-fits w [] [] (gated high x) gated_sum_on gated_borrow_on out pos (level-whole (gated high x) gated_borrow_on refl))

adding-fits : (w d : ℕ) → 0 < w → AllFit w (adding w d)
unfolding adding
adding-fits w d pos =
    let rows = carry_row ∷ half_after w ∷ d ∷ [] in
    sum_from-fits w [] [] rows odd_on most_on total_row pos (level-whole rows most_on refl)

taking-fits : (w d : ℕ) → 0 < w → AllFit w (taking w d)
unfolding taking
taking-fits w d pos =
    let rows = carry_row ∷ half_after w ∷ d ∷ [] in
    sum_from-fits w [] (0 ∷ []) rows odd_not_on borrow_on total_row pos (level-whole rows borrow_on refl)

pub finishing-fits : (kind : Product) (w a b d : ℕ) → 0 < w → AllFit w (finishing kind w a b d)
finishing-fits Mul w a b d pos = tt
finishing-fits Mulhu w a b d pos = tt
finishing-fits Mulhsu w a b d pos = correcting-fits w b a high_row total_row pos
finishing-fits Mulh w a b d pos =
    AllFit-append w (correcting w b a high_row total_row) (correcting w a b total_row corrected_row) (correcting-fits w b a high_row total_row pos) (correcting-fits w a b total_row corrected_row pos)
finishing-fits Macc w a b d pos = adding-fits w d pos
finishing-fits Nmsac w a b d pos = taking-fits w d pos
