-- The laws of the product over 2^(w - 1): its list realises it, and sets the clip flag.
use Rattle.std.proofs.Common.{◌≡◌, ℕ, zero, suc, ◌-◌, ◌*◌, ◌/◌, ◌%◌, ◌<◌, ◌≤◌, Bool, true, false, cond, eqb, ◌&&◌, [], ◌∷◌, ◌++◌, refl, ◌∙◌, ap, arith, inl, inr}
use Rattle.std.proofs.Math.Nat.{mod-add-div'}
use Rattle.bit_laws.specs.Rounding.{clipped}
use Rattle.bit_laws.proofs.Ints.{int-low}
use Rattle.bit_rows.specs.Slices.{Slices}
use Rattle.fold_laws.proofs.Anys.{any-same}
use Rattle.steer_net.specs.Moves.{per_row}
use Rattle.micro_ir.specs.Kinds.{Realises}
use Rattle.micro_ir.specs.Pieces.{StaysIn, below, commit}
use Rattle.micro_ir.specs.Replay.{replay}
use Rattle.micro_ir.specs.Steps.{AllFit, element, micros, steps_on}
use Rattle.micro_ir.specs.WorkRows.{IsOperandRow, active_row}
use Rattle.micro_ir.specs.declared.place.Place.{Place}
use Rattle.micro_ir.proofs.Committed.{commit-writes}
use Rattle.micro_ir.proofs.Effects.{downs-fit}
use Rattle.micro_ir.proofs.Folds.{copy-whole}
use Rattle.micro_ir.proofs.Incrementing.{increment-fits}
use Rattle.micro_ir.proofs.Lift.{micros-element, replay-columns}
use Rattle.micro_ir.proofs.Lists.{replay-append}
use Rattle.micro_ir.proofs.OneElement.{clear-fits, above-fits, below-fits, ranged-fits, commit-fits}
use Rattle.micro_ir.proofs.StepLists.{AllFit-append}
use Rattle.row_views.specs.Clips.{clip_test, ClipsWhere}
use Rattle.row_views.specs.Views.{view}
use Rattle.row_views.proofs.Clips.{body-clip}
use Rattle.gen_shift.specs.Lists.{mode_on, mode_rows, mode_steps}
use Rattle.gen_shift.specs.Rows.{last_role, moved_row, more_row}
use Rattle.row_sums.specs.Sums.{half_after}
use Rattle.row_sums.proofs.Fits.{doubled-fits}
use Rattle.row_sums.proofs.Kept.{kept, low-off}
use Rattle.gen_mul.specs.declared.kinds.Product.TheVariants.{Mulh}
use Rattle.gen_mul.specs.Lists.{corrected_row, multiplying, both_corrections}
use Rattle.gen_mul.specs.Fractions.{overflow_row, clipped_row, quotient, lower, left_over, rounding, rounded_row, flagging, low_range, clipping, fraction, fraction_steps, smul_value}
use Rattle.gen_mul.specs.Laws.{RealisesSmul, ClipsSmul}
use Rattle.gen_mul.proofs.Clipped.{fraction_works, fraction-only, fraction-on}
use Rattle.gen_mul.proofs.Families.{operand-free}
use Rattle.gen_mul.proofs.Fits.{multiplying-fits, finishing-fits}

-- ---- no step leaves its element

lower-fits : (w n : ℕ) → n ≤ w → AllFit w (lower w n)
unfolding lower
lower-fits w zero room = tt
lower-fits w (suc n) room =
    AllFit-append w (lower w n) (below (half_after w ∷ []) (1 ∷ []) more_row n n ∷ []) (lower-fits w n (omega arith))
    (below-fits w (half_after w ∷ []) (1 ∷ []) more_row n n (omega arith) (omega arith) (inl (copy-whole (half_after w))), tt)

left-fits : (w : ℕ) → 1 < w → AllFit w (left_over w)
unfolding left_over
left-fits w wide = (
  clear-fits w (last_role false),
  (
    below-fits w (half_after w ∷ []) (1 ∷ []) (last_role false) (w - 2) (w - 2) (omega arith) (omega arith) (inl (copy-whole (half_after w))),
    (clear-fits w more_row, lower-fits w (w - 2) (omega arith)),
  ),
)

rounding-fits : (mode w : ℕ) → 1 < w → AllFit w (rounding mode w)
unfolding rounding
rounding-fits mode w wide = by (eqb mode 2)
  where
    g : ℕ
    g = last_role false

    by : (down : Bool) → AllFit w (cond down [] (left_over w ++ mode_steps w mode moved_row g more_row))
    by true = tt
    by false =
        AllFit-append w (left_over w) (mode_steps w mode moved_row g more_row) (left-fits w wide)
        (increment-fits w moved_row (mode_rows mode moved_row g more_row) (mode_on mode) (omega arith))

flagging-fits : (w : ℕ) → 0 < w → AllFit w (flagging w)
unfolding flagging
flagging-fits w some =
    (clear-fits w overflow_row, (above-fits w (corrected_row ∷ moved_row ∷ []) (2 ∷ []) overflow_row (w - 1) 0 (omega arith) (inr (refl, refl)), downs-fit w overflow_row (w - 1) (omega arith)))

pub low-stays : (w : ℕ) → 0 < w → StaysIn w (low_range w)
low-stays w some = record { top = omega arith; low = omega arith; near = some }

clipping-fits : (w row : ℕ) → 0 < w → AllFit w (clipping w row)
unfolding clipping
clipping-fits w row some = (
  clear-fits w clipped_row,
  (
    ranged-fits w (row ∷ overflow_row ∷ []) (1 ∷ 2 ∷ 3 ∷ []) clipped_row (low_range w) (low-stays w some) (inr (refl, refl)),
    (above-fits w (row ∷ overflow_row ∷ []) (1 ∷ []) clipped_row (w - 1) 0 (omega arith) (inr (refl, refl)), tt),
  ),
)

fraction-fits : (mode w a b : ℕ) → 1 < w → AllFit w (fraction_steps mode w a b)
unfolding fraction_steps
fraction-fits mode w a b wide =
    let row = rounded_row mode in
    AllFit-append w (multiplying w a b ++ both_corrections w a b) (quotient w ++ (rounding mode w ++ (flagging w ++ clipping w row)))
    (AllFit-append w (multiplying w a b) (both_corrections w a b) (multiplying-fits w a b wide) (finishing-fits Mulh w a b 0 (omega arith)))
    (AllFit-append w (quotient w) (rounding mode w ++ (flagging w ++ clipping w row)) (doubled-fits w corrected_row moved_row (half_after w) wide)
    (AllFit-append w (rounding mode w) (flagging w ++ clipping w row) (rounding-fits mode w wide)
    (AllFit-append w (flagging w) (clipping w row) (flagging-fits w (omega arith)) (clipping-fits w row (omega arith)))))

-- ---- the kind

-- what looks for the flag changes no row
test-element : (v w k col row : ℕ) (s : Slices) → element w k col (replay (clip_test v row) s) ≡ element w k col s
unfolding element replay
test-element v w k col row s = refl

pub realises-smul : (w : ℕ) (at : Place) → 1 < w → IsOperandRow at.a → IsOperandRow at.b → at.to < 32 → RealisesSmul w at
unfolding Realises
realises-smul w at wide a b register reads s k col inside column =
    let steps = fraction_steps at.mode w at.a at.b in
    let test = clip_test w overflow_row in
    let last = commit w clipped_row at.to in
    let e = element w k col s in
    let s1 = replay (micros w steps) s in
    let s2 = replay test s1 in
    let fits = fraction-fits at.mode w at.a at.b wide in
    let in_columns : col < s2.columns = rw (replay-columns test s1, replay-columns (micros w steps) s) column in
    let parts : element w k col (replay (micros w steps ++ (test ++ micros w last)) s) ≡ steps_on last (steps_on steps e) =
    ap (element w k col) (replay-append (micros w steps) (test ++ micros w last) s ∙ replay-append test (micros w last) s1)
    ∙ micros-element w k col last s2 (commit-fits w clipped_row at.to (omega arith)) inside in_columns
    ∙ ap (steps_on last) (test-element w w k col overflow_row s1 ∙ micros-element w k col steps s fits inside column) in
    let f = fraction-on at.mode w at.a at.b e wide (operand-free at.a a) (operand-free at.b b) in
    rw parts (commit-writes w clipped_row at.to reads (λ n c. smul_value at.mode w (n at.a) (n at.b)) e (steps_on steps e) (omega arith) register
    (λ c mask. f.made ∙ int-low w (clipped w (fraction at.mode w _ _)))
    (λ r j l within n. kept fraction_works steps e r (fraction-only at.mode w at.a at.b) (low-off r fraction_works l refl) n j))

-- whole elements fill a subarray
lanes-of : (w : ℕ) → 32 % w ≡ 0 → 32 / w * w ≡ 32
lanes-of w divides = let m = mod-add-div' 32 w in omega (arith, m, divides)

pub clips-smul : (w : ℕ) (at : Place) → 1 < w → 32 % w ≡ 0 → IsOperandRow at.a → IsOperandRow at.b → ClipsSmul w at
unfolding ClipsWhere
clips-smul w at wide divides a b s =
    let steps = fraction_steps at.mode w at.a at.b in
    body-clip w overflow_row steps (commit w clipped_row at.to) s (fraction-fits at.mode w at.a at.b wide) (omega arith) (lanes-of w divides)
    ∙ any-same (per_row w s) _ _ (λ p l.
    let e = view w s p in
    let active : steps_on steps e active_row ≡ e active_row = kept fraction_works steps e active_row (fraction-only at.mode w at.a at.b) refl in
    let f = fraction-on at.mode w at.a at.b e wide (operand-free at.a a) (operand-free at.b b) in
    ap (λ (x : ℕ → Bool). x 0 && steps_on steps e overflow_row 0) active ∙ ap (λ (c : Bool). e active_row 0 && c) (f.flag 0 (omega arith)))
