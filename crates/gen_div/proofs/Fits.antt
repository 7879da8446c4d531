-- No step of a division leaves its element.
use Rattle.std.proofs.Common.{◌≡◌, ◌≢◌, ℕ, ◌+◌, ◌-◌, ◌<◌, true, false, not, List, [], ◌∷◌, ◌++◌, zero, suc, refl, arith, inl, inr}
use Rattle.std.proofs.lemmas.Bool.{ne_eqb}
use Rattle.micro_ir.specs.Folding.{has_whole, first_whole, keys_with}
use Rattle.micro_ir.specs.Pieces.{above, clear, downs, broadcast, everywhere}
use Rattle.micro_ir.specs.Steps.{AllFit}
use Rattle.micro_ir.specs.WorkRows.{carry_row, broadcast_row, truth_row}
use Rattle.micro_ir.proofs.Effects.{broadcast-fits, downs-fit}
use Rattle.micro_ir.proofs.Folds.{copy-whole, level-whole}
use Rattle.micro_ir.proofs.OneElement.{clear-fits, above-fits, everywhere-fits}
use Rattle.micro_ir.proofs.StepLists.{AllFit-append}
use Rattle.gen_arith.specs.Recipes.{odd_on, first_on}
use Rattle.gen_shift.specs.Rows.{is_odd, is_among}
use Rattle.row_sums.specs.Sums.{total_row, half_role, half_after, total, doubled, shifted_once}
use Rattle.row_sums.proofs.Fits.{total-fits, sum_from-fits, once-fits, doubled-fits}
use Rattle.row_sums.proofs.Kept.{differ, off_first, halves}
use Rattle.gen_div.specs.declared.kinds.Division.{Division}
use Rattle.gen_div.specs.declared.kinds.Division.TheVariants.{Divu, Remu, Div, Rem}
use Rattle.gen_div.specs.Lists.{moved_row, rest_row, borrow_row, nonzero_row, borrow_last_on, fits_on, entering, choosing, division_round, division_rounds, dividing, negate_on, negating, by_sign, magnitudes, gathering, unlike_signs_on, quotient_sign, quotient_signs, starting, finishing}
use Rattle.gen_div.proofs.Negatives.{signed_works, works}

entering-fits : (w q r : ℕ) → 1 < w → AllFit w (entering w q r)
entering-fits w q r wide =
    AllFit-append w (doubled w rest_row moved_row q) (clear w truth_row ∷ above (rest_row ∷ []) (1 ∷ []) truth_row (w - 1) 0 ∷ shifted_once w true q r) (doubled-fits w rest_row moved_row q wide)
    (clear-fits w truth_row, (above-fits w (rest_row ∷ []) (1 ∷ []) truth_row (w - 1) 0 (omega arith) (inl (copy-whole rest_row)), once-fits w true q r wide))

choosing-fits : (w r : ℕ) → 0 < w → AllFit w (choosing w r)
choosing-fits w r pos =
    let merge = everywhere w (broadcast_row ∷ total_row ∷ moved_row ∷ []) first_on rest_row true in
    let tail = clear w rest_row ∷ merge ∷ above (broadcast_row ∷ []) (1 ∷ []) r 0 0 ∷ [] in (
      clear-fits w broadcast_row,
      (
        above-fits w (truth_row ∷ borrow_row ∷ []) fits_on broadcast_row (w - 1) 0 (omega arith) (inr (refl, refl)),
        AllFit-append w (downs broadcast_row (w - 1)) tail (downs-fit w broadcast_row (w - 1) (omega arith))
            (clear-fits w rest_row, (everywhere-fits w (broadcast_row ∷ total_row ∷ moved_row ∷ []) first_on rest_row, (above-fits w (broadcast_row ∷ []) (1 ∷ []) r 0 0 (omega arith) (inl (copy-whole broadcast_row)), tt))),
      ),
    )

round-fits : (w b q r : ℕ) → 1 < w → AllFit w (division_round w b q r)
unfolding division_round
round-fits w b q r wide =
    let inputs = moved_row ∷ b ∷ carry_row ∷ [] in
    let adds = total w inputs odd_on borrow_last_on total_row borrow_row in
    AllFit-append w (entering w q r) (adds ++ choosing w r) (entering-fits w q r wide)
    (AllFit-append w adds (choosing w r) (total-fits w inputs odd_on borrow_last_on total_row borrow_row (omega arith) (level-whole inputs borrow_last_on refl)) (choosing-fits w r (omega arith)))

rounds-fit : (w b n : ℕ) → 1 < w → AllFit w (division_rounds w b n)
unfolding division_rounds
rounds-fit w b zero wide = tt
rounds-fit w b (suc n) wide =
    AllFit-append w (division_rounds w b n) (division_round w b (half_role (is_odd n)) (half_role (not (is_odd n)))) (rounds-fit w b n wide) (round-fits w b (half_role (is_odd n)) (half_role (not (is_odd n))) wide)

dividing-fits : (w a b : ℕ) → 1 < w → AllFit w (dividing w a b)
unfolding dividing
dividing-fits w a b wide = (clear-fits w rest_row, (clear-fits w (half_role false), (everywhere-fits w (a ∷ []) (1 ∷ []) (half_role false), rounds-fit w b w wide)))

-- ---- signs: a row that is negated is not that of the sign, nor that of carries

apart-keys : (x : ℕ) → x ≢ carry_row → x ≢ broadcast_row → has_whole (x ∷ broadcast_row ∷ carry_row ∷ []) negate_on ≡ true
unfolding first_whole keys_with
apart-keys x c s = rw (ne_eqb x 37 s, ne_eqb x 35 c) refl

negating-fits : (w x out : ℕ) → 0 < w → x ≢ carry_row → x ≢ broadcast_row → AllFit w (negating w x out)
unfolding negating
negating-fits w x out pos c s = sum_from-fits w (broadcast_row ∷ []) (1 ∷ []) (x ∷ broadcast_row ∷ carry_row ∷ []) odd_on negate_on out pos (apart-keys x c s)

by_sign-fits : (w y x out : ℕ) → 0 < w → x ≢ carry_row → x ≢ broadcast_row → AllFit w (by_sign w y x out)
by_sign-fits w y x out pos c s = AllFit-append w (broadcast w y (w - 1)) (negating w x out) (broadcast-fits w y (w - 1) (omega arith)) (negating-fits w x out pos c s)

magnitudes-fits : (w a b : ℕ) → 1 < w → is_among signed_works a ≡ false → is_among signed_works b ≡ false → AllFit w (magnitudes w a b)
unfolding magnitudes
magnitudes-fits w a b wide a_off b_off =
    AllFit-append w (by_sign w a a 55) (by_sign w b b 56 ++ dividing w 55 56) (by_sign-fits w a a 55 (omega arith) (differ a 35 signed_works a_off refl) (differ a 37 signed_works a_off refl))
    (AllFit-append w (by_sign w b b 56) (dividing w 55 56) (by_sign-fits w b b 56 (omega arith) (differ b 35 signed_works b_off refl) (differ b 37 signed_works b_off refl)) (dividing-fits w 55 56 wide))

gathering-fits : (w row b n : ℕ) → n < w → AllFit w (gathering row b n)
unfolding gathering
gathering-fits w row b zero h = tt
gathering-fits w row b (suc n) h =
    AllFit-append w (gathering row b n) (above (row ∷ b ∷ []) (1 ∷ 2 ∷ 3 ∷ []) row n 1 ∷ []) (gathering-fits w row b n (omega arith))
    (above-fits w (row ∷ b ∷ []) (1 ∷ 2 ∷ 3 ∷ []) row n 1 (omega arith) (inl (level-whole (row ∷ b ∷ []) (1 ∷ 2 ∷ 3 ∷ []) refl)), tt)

signs-fits : (w a b : ℕ) → 0 < w → AllFit w (quotient_signs w a b)
unfolding quotient_signs
signs-fits w a b pos = (
  clear-fits w nonzero_row,
  AllFit-append w (gathering nonzero_row b (w - 1)) (clear w broadcast_row ∷ quotient_sign w a b ∷ downs broadcast_row (w - 1)) (gathering-fits w nonzero_row b (w - 1) (omega arith))
      (clear-fits w broadcast_row, (above-fits w (a ∷ b ∷ nonzero_row ∷ []) unlike_signs_on broadcast_row (w - 1) 0 (omega arith) (inr (refl, refl)), downs-fit w broadcast_row (w - 1) (omega arith))),
)

-- ---- the kinds

pub starting-fits : (kind : Division) (w a b : ℕ) → 1 < w → is_among (works kind) a ≡ false → is_among (works kind) b ≡ false → AllFit w (starting kind w a b)
starting-fits Divu w a b wide a_off b_off = dividing-fits w a b wide
starting-fits Remu w a b wide a_off b_off = dividing-fits w a b wide
starting-fits Div w a b wide a_off b_off = magnitudes-fits w a b wide a_off b_off
starting-fits Rem w a b wide a_off b_off = magnitudes-fits w a b wide a_off b_off

half-off : (w : ℕ) (rows : List ℕ) → is_among rows 43 ≡ false → is_among rows 44 ≡ false → is_among rows (half_after w) ≡ false
half-off w = off_first (half_after w) (half_role (not (is_odd w))) (halves (is_odd w))

pub finishing-fits : (kind : Division) (w a b : ℕ) → 0 < w → AllFit w (finishing kind w a b)
finishing-fits Divu w a b pos = tt
finishing-fits Remu w a b pos = tt
finishing-fits Div w a b pos =
    AllFit-append w (quotient_signs w a b) (negating w (half_after w) total_row) (signs-fits w a b pos)
    (negating-fits w (half_after w) total_row pos (differ (half_after w) 35 (35 ∷ []) (half-off w (35 ∷ []) refl refl) refl) (differ (half_after w) 37 (37 ∷ []) (half-off w (37 ∷ []) refl refl) refl))
finishing-fits Rem w a b pos = by_sign-fits w a rest_row total_row pos (omega arith) (omega arith)
