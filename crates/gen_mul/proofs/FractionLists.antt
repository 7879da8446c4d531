-- The parts of the list of the product over 2^(w - 1), as they are written.
use Rattle.std.proofs.Common.{◌≡◌, ◌≢◌, ℕ, suc, ◌+◌, ◌-◌, false, [], ◌∷◌, ◌++◌, refl, ◌∙◌, ap, arith, append_assoc}
use Rattle.std.proofs.lemmas.Bool.{ne_eqb}
use Rattle.micro_ir.specs.Pieces.{ranged, above, below, clear, downs}
use Rattle.micro_ir.specs.Steps.{micro, micros}
use Rattle.micro_ir.proofs.StepLists.{micros-append, micros-one}
use Rattle.gen_shift.specs.Lists.{mode_steps}
use Rattle.gen_shift.specs.Rows.{last_role, moved_row, more_row}
use Rattle.row_sums.specs.Sums.{half_after}
use Rattle.gen_mul.specs.Lists.{corrected_row, multiplying, both_corrections}
use Rattle.gen_mul.specs.Fractions.{overflow_row, clipped_row, quotient, lower, left_over, rounding, rounded_row, flagging, low_range, clipping, fraction_steps}

pub lower-none : (w : ℕ) → micros w (lower w 0) ≡ []
unfolding lower micros
lower-none w = refl

pub lower-more : (w n : ℕ) → micros w (lower w (n + 1)) ≡ micros w (lower w n) ++ micro w (below (half_after w ∷ []) (1 ∷ []) more_row n n)
unfolding lower
lower-more w n =
    let e : n + 1 ≡ suc n = omega arith in
    let step = below (half_after w ∷ []) (1 ∷ []) more_row n n in
    rw e (micros-append w (lower w n) (step ∷ []) ∙ ap (λ l. micros w (lower w n) ++ l) (micros-one w step))

pub left-list : (w : ℕ)
    → micros w (left_over w)
    ≡ micro w (clear w (last_role false))
    ++ (micro w (below (half_after w ∷ []) (1 ∷ []) (last_role false) (w - 2) (w - 2)) ++ (micro w (clear w more_row) ++ micros w (lower w (w - 2))))
unfolding left_over micros
left-list w = refl

pub rounding-down : (mode w : ℕ) → mode ≡ 2 → micros w (rounding mode w) ≡ []
unfolding rounding micros
rounding-down mode w is = rw is refl

pub rounding-up : (mode w : ℕ) → mode ≢ 2 → micros w (rounding mode w) ≡ micros w (left_over w) ++ micros w (mode_steps w mode moved_row (last_role false) more_row)
unfolding rounding
rounding-up mode w other = rw (ne_eqb mode 2 other) (micros-append w (left_over w) (mode_steps w mode moved_row (last_role false) more_row))

pub flagging-list : (w : ℕ)
    → micros w (flagging w)
    ≡ micro w (clear w overflow_row) ++ (micro w (above (corrected_row ∷ moved_row ∷ []) (2 ∷ []) overflow_row (w - 1) 0) ++ micros w (downs overflow_row (w - 1)))
unfolding flagging micros
flagging-list w = refl

pub clipping-list : (w row : ℕ)
    → micros w (clipping w row)
    ≡ micro w (clear w clipped_row)
    ++ (micro w (ranged (row ∷ overflow_row ∷ []) (1 ∷ 2 ∷ 3 ∷ []) clipped_row (low_range w)) ++ micro w (above (row ∷ overflow_row ∷ []) (1 ∷ []) clipped_row (w - 1) 0))
unfolding clipping micros
clipping-list w row =
    ap (λ l. micro w (clear w clipped_row) ++ (micro w (ranged (row ∷ overflow_row ∷ []) (1 ∷ 2 ∷ 3 ∷ []) clipped_row (low_range w)) ++ l))
    (micros-one w (above (row ∷ overflow_row ∷ []) (1 ∷ []) clipped_row (w - 1) 0))

pub fraction-list : (mode w a b : ℕ)
    → micros w (fraction_steps mode w a b)
    ≡ micros w (multiplying w a b)
    ++ (micros w (both_corrections w a b) ++ (micros w (quotient w) ++ (micros w (rounding mode w) ++ (micros w (flagging w) ++ micros w (clipping w (rounded_row mode))))))
unfolding fraction_steps
fraction-list mode w a b =
    let row = rounded_row mode in
    micros-append w (multiplying w a b ++ both_corrections w a b) (quotient w ++ (rounding mode w ++ (flagging w ++ clipping w row)))
    ∙ rw (micros-append w (multiplying w a b) (both_corrections w a b), micros-append w (quotient w) (rounding mode w ++ (flagging w ++ clipping w row)), micros-append w (rounding mode w) (flagging w ++ clipping w row), micros-append w (flagging w) (clipping w row))
    (append_assoc (micros w (multiplying w a b)) (micros w (both_corrections w a b)) _)
