-- The lists of divisions, as they are written.
use Rattle.std.proofs.Common.{◌≡◌, ℕ, ◌+◌, ◌-◌, true, false, not, [], ◌∷◌, ◌++◌, suc, refl, ◌∙◌, ap, arith, append_assoc}
use Rattle.micro_ir.specs.Steps.{micro, micros}
use Rattle.micro_ir.specs.WorkRows.{carry_row, broadcast_row, truth_row, left_row, right_row}
use Rattle.micro_ir.specs.Pieces.{above, clear, commit, downs, broadcast, everywhere}
use Rattle.micro_ir.proofs.StepLists.{micros-append, micros-one}
use Rattle.gen_arith.specs.Recipes.{ripple, odd_on, first_on}
use Rattle.gen_shift.specs.Rows.{is_odd}
use Rattle.row_sums.specs.Sums.{total_row, half_role, half_after, total, shifted_once, doubled}
use Rattle.row_sums.proofs.Written.{sum_from-list}
use Rattle.gen_div.specs.declared.kinds.Division.{Division}
use Rattle.gen_div.specs.Lists.{moved_row, rest_row, borrow_row, nonzero_row, borrow_last_on, fits_on, entering, choosing, division_round, division_rounds, dividing, negate_on, negating, by_sign, magnitudes, gathering, quotient_sign, quotient_signs, signed_quotient, starting, finishing, result_row, division_steps}

pub entering-list : (w q r : ℕ)
    → micros w (entering w q r)
    ≡ micros w (doubled w rest_row moved_row q)
    ++ (micro w (clear w truth_row) ++ (micro w (above (rest_row ∷ []) (1 ∷ []) truth_row (w - 1) 0) ++ micros w (shifted_once w true q r)))
unfolding micros
entering-list w q r =
    micros-append w (doubled w rest_row moved_row q) (clear w truth_row ∷ above (rest_row ∷ []) (1 ∷ []) truth_row (w - 1) 0 ∷ shifted_once w true q r)

pub choosing-list : (w r : ℕ)
    → micros w (choosing w r)
    ≡ micro w (clear w broadcast_row)
    ++ (micro w (above (truth_row ∷ borrow_row ∷ []) fits_on broadcast_row (w - 1) 0)
    ++ (micros w (downs broadcast_row (w - 1))
    ++ (micro w (clear w rest_row)
    ++ (micro w (everywhere w (broadcast_row ∷ total_row ∷ moved_row ∷ []) first_on rest_row true) ++ micro w (above (broadcast_row ∷ []) (1 ∷ []) r 0 0)))))
unfolding micros
choosing-list w r =
    let down = downs broadcast_row (w - 1) in
    let merge = everywhere w (broadcast_row ∷ total_row ∷ moved_row ∷ []) first_on rest_row true in
    let last = above (broadcast_row ∷ []) (1 ∷ []) r 0 0 in
    ap (λ l. micro w (clear w broadcast_row) ++ (micro w (above (truth_row ∷ borrow_row ∷ []) fits_on broadcast_row (w - 1) 0) ++ l))
    (micros-append w down (clear w rest_row ∷ merge ∷ last ∷ [])
    ∙ ap (λ l. micros w down ++ (micro w (clear w rest_row) ++ (micro w merge ++ l))) (micros-one w last))

pub round-list : (w b q r : ℕ)
    → micros w (division_round w b q r)
    ≡ micros w (entering w q r) ++ (micros w (total w (moved_row ∷ b ∷ carry_row ∷ []) odd_on borrow_last_on total_row borrow_row) ++ micros w (choosing w r))
unfolding division_round
round-list w b q r =
    let adds = total w (moved_row ∷ b ∷ carry_row ∷ []) odd_on borrow_last_on total_row borrow_row in
    micros-append w (entering w q r) (adds ++ choosing w r) ∙ ap (λ l. micros w (entering w q r) ++ l) (micros-append w adds (choosing w r))

-- no round yet, and one more
pub rounds-none : (w b : ℕ) → micros w (division_rounds w b 0) ≡ []
unfolding division_rounds micros
rounds-none w b = refl

pub rounds-more : (w b n : ℕ)
    → micros w (division_rounds w b (n + 1)) ≡ micros w (division_rounds w b n) ++ micros w (division_round w b (half_role (is_odd n)) (half_role (not (is_odd n))))
unfolding division_rounds
rounds-more w b n =
    let e : n + 1 ≡ suc n = omega arith in
    rw e (micros-append w (division_rounds w b n) (division_round w b (half_role (is_odd n)) (half_role (not (is_odd n)))))

pub dividing-list : (w a b : ℕ)
    → micros w (dividing w a b)
    ≡ micro w (clear w rest_row)
    ++ (micro w (clear w (half_role false)) ++ (micro w (everywhere w (a ∷ []) (1 ∷ []) (half_role false) true) ++ micros w (division_rounds w b w)))
unfolding dividing micros
dividing-list w a b = refl

-- ---- signs

pub negating-list : (w x out : ℕ)
    → micros w (negating w x out)
    ≡ micro w (clear w carry_row)
    ++ (micro w (above (broadcast_row ∷ []) (1 ∷ []) carry_row 0 0)
    ++ (micro w (clear w out) ++ micros w (ripple w (x ∷ broadcast_row ∷ carry_row ∷ []) odd_on negate_on carry_row out w)))
unfolding negating
negating-list w x out = sum_from-list w (broadcast_row ∷ []) (1 ∷ []) (x ∷ broadcast_row ∷ carry_row ∷ []) odd_on negate_on out

pub by_sign-list : (w y x out : ℕ) → micros w (by_sign w y x out) ≡ micros w (broadcast w y (w - 1)) ++ micros w (negating w x out)
by_sign-list w y x out = micros-append w (broadcast w y (w - 1)) (negating w x out)

pub magnitudes-list : (w a b : ℕ)
    → micros w (magnitudes w a b) ≡ micros w (by_sign w a a left_row) ++ (micros w (by_sign w b b right_row) ++ micros w (dividing w left_row right_row))
unfolding magnitudes
magnitudes-list w a b =
    micros-append w (by_sign w a a left_row) (by_sign w b b right_row ++ dividing w left_row right_row)
    ∙ ap (λ l. micros w (by_sign w a a left_row) ++ l) (micros-append w (by_sign w b b right_row) (dividing w left_row right_row))

pub gathering-none : (w row b : ℕ) → micros w (gathering row b 0) ≡ []
unfolding gathering micros
gathering-none w row b = refl

pub gathering-more : (w row b n : ℕ) → micros w (gathering row b (n + 1)) ≡ micros w (gathering row b n) ++ micro w (above (row ∷ b ∷ []) (1 ∷ 2 ∷ 3 ∷ []) row n 1)
unfolding gathering
gathering-more w row b n =
    let e : n + 1 ≡ suc n = omega arith in
    let one = above (row ∷ b ∷ []) (1 ∷ 2 ∷ 3 ∷ []) row n 1 in
    rw e (micros-append w (gathering row b n) (one ∷ []) ∙ ap (λ l. micros w (gathering row b n) ++ l) (micros-one w one))

pub signs-list : (w a b : ℕ)
    → micros w (quotient_signs w a b)
    ≡ micro w (clear w nonzero_row)
    ++ (micros w (gathering nonzero_row b (w - 1)) ++ (micro w (clear w broadcast_row) ++ (micro w (quotient_sign w a b) ++ micros w (downs broadcast_row (w - 1)))))
unfolding quotient_signs micros
signs-list w a b =
    ap (λ l. micro w (clear w nonzero_row) ++ l) (micros-append w (gathering nonzero_row b (w - 1)) (clear w broadcast_row ∷ quotient_sign w a b ∷ downs broadcast_row (w - 1)))

pub signed-list : (w a b : ℕ) → micros w (signed_quotient w a b) ≡ micros w (quotient_signs w a b) ++ micros w (negating w (half_after w) total_row)
signed-list w a b = micros-append w (quotient_signs w a b) (negating w (half_after w) total_row)

-- ---- the kinds

pub division-list : (kind : Division) (w a b to : ℕ)
    → micros w (division_steps kind w a b to) ≡ micros w (starting kind w a b) ++ (micros w (finishing kind w a b) ++ micros w (commit w (result_row kind w) to))
unfolding division_steps
division-list kind w a b to =
    micros-append w (starting kind w a b ++ finishing kind w a b) (commit w (result_row kind w) to)
    ∙ rw (micros-append w (starting kind w a b) (finishing kind w a b)) (append_assoc (micros w (starting kind w a b)) (micros w (finishing kind w a b)) (micros w (commit w (result_row kind w) to)))
