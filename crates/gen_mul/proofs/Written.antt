-- The lists of products, as they are written.
use Rattle.std.proofs.Common.{◌≡◌, ℕ, ◌+◌, ◌-◌, false, not, [], ◌∷◌, ◌++◌, suc, refl, ◌∙◌, ap, arith, append_assoc}
use Rattle.micro_ir.specs.Steps.{micro, micros}
use Rattle.micro_ir.specs.WorkRows.{carry_row, truth_row}
use Rattle.micro_ir.specs.Pieces.{above, clear, commit, broadcast}
use Rattle.micro_ir.proofs.StepLists.{micros-append}
use Rattle.gen_arith.specs.Recipes.{ripple, odd_on, most_on, odd_not_on, borrow_on}
use Rattle.gen_shift.specs.Rows.{is_odd}
use Rattle.row_sums.specs.Sums.{total_row, half_role, half_after, sum_from, total, halved}
use Rattle.row_sums.proofs.Written.{sum_from-list, sum-list}
use Rattle.gen_mul.specs.declared.kinds.Product.{Product}
use Rattle.gen_mul.specs.Lists.{high_row, corrected_row, gated, gated_sum_on, gated_carry_on, gated_borrow_on, product_round, product_rounds, multiplying, correcting, both_corrections, adding, taking, finishing, result_row, product_steps}

pub round-list : (w a b q r j : ℕ)
    → micros w (product_round w a b q r j)
    ≡ micros w (broadcast w b j)
    ++ (micros w (total w (gated high_row a) gated_sum_on gated_carry_on total_row truth_row)
    ++ (micros w (halved w total_row high_row truth_row (w - 1) 0) ++ micros w (halved w q r total_row 0 (w - 1))))
unfolding product_round
round-list w a b q r j =
    let adds = total w (gated high_row a) gated_sum_on gated_carry_on total_row truth_row in
    let p = halved w total_row high_row truth_row (w - 1) 0 in
    let l = halved w q r total_row 0 (w - 1) in
    micros-append w (broadcast w b j) (adds ++ (p ++ l))
    ∙ ap (λ x. micros w (broadcast w b j) ++ x) (micros-append w adds (p ++ l) ∙ ap (λ x. micros w adds ++ x) (micros-append w p l))

-- no round yet, and one more
pub rounds-none : (w a b : ℕ) → micros w (product_rounds w a b 0) ≡ []
unfolding product_rounds micros
rounds-none w a b = refl

pub rounds-more : (w a b n : ℕ)
    → micros w (product_rounds w a b (n + 1)) ≡ micros w (product_rounds w a b n) ++ micros w (product_round w a b (half_role (is_odd n)) (half_role (not (is_odd n))) n)
unfolding product_rounds
rounds-more w a b n =
    let e : n + 1 ≡ suc n = omega arith in
    rw e (micros-append w (product_rounds w a b n) (product_round w a b (half_role (is_odd n)) (half_role (not (is_odd n))) n))

pub multiplying-list : (w a b : ℕ)
    → micros w (multiplying w a b) ≡ micro w (clear w high_row) ++ (micro w (clear w (half_role false)) ++ micros w (product_rounds w a b w))
unfolding multiplying micros
multiplying-list w a b = refl

pub correcting-list : (w x y h out : ℕ)
    → micros w (correcting w x y h out)
    ≡ micros w (broadcast w y (w - 1))
    ++ (micro w (clear w carry_row) ++ (micro w (clear w out) ++ micros w (ripple w (gated h x) gated_sum_on gated_borrow_on carry_row out w)))
unfolding correcting
correcting-list w x y h out =
    micros-append w (broadcast w y (w - 1)) (sum_from w [] [] (gated h x) gated_sum_on gated_borrow_on out)
    ∙ ap (λ l. micros w (broadcast w y (w - 1)) ++ l) (sum-list w (gated h x) gated_sum_on gated_borrow_on out)

pub both-list : (w a b : ℕ)
    → micros w (both_corrections w a b) ≡ micros w (correcting w b a high_row total_row) ++ micros w (correcting w a b total_row corrected_row)
both-list w a b = micros-append w (correcting w b a high_row total_row) (correcting w a b total_row corrected_row)

pub adding-list : (w d : ℕ)
    → micros w (adding w d)
    ≡ micro w (clear w carry_row) ++ (micro w (clear w total_row) ++ micros w (ripple w (carry_row ∷ half_after w ∷ d ∷ []) odd_on most_on carry_row total_row w))
unfolding adding
adding-list w d = sum-list w (carry_row ∷ half_after w ∷ d ∷ []) odd_on most_on total_row

pub taking-list : (w d : ℕ)
    → micros w (taking w d)
    ≡ micro w (clear w carry_row)
    ++ (micro w (above [] (0 ∷ []) carry_row 0 0)
    ++ (micro w (clear w total_row) ++ micros w (ripple w (carry_row ∷ half_after w ∷ d ∷ []) odd_not_on borrow_on carry_row total_row w)))
unfolding taking
taking-list w d = sum_from-list w [] (0 ∷ []) (carry_row ∷ half_after w ∷ d ∷ []) odd_not_on borrow_on total_row

pub product-list : (kind : Product) (w a b d to : ℕ)
    → micros w (product_steps kind w a b d to) ≡ micros w (multiplying w a b) ++ (micros w (finishing kind w a b d) ++ micros w (commit w (result_row kind w) to))
unfolding product_steps
product-list kind w a b d to =
    micros-append w (multiplying w a b ++ finishing kind w a b d) (commit w (result_row kind w) to)
    ∙ rw (micros-append w (multiplying w a b) (finishing kind w a b d)) (append_assoc (micros w (multiplying w a b)) (micros w (finishing kind w a b d)) (micros w (commit w (result_row kind w) to)))
