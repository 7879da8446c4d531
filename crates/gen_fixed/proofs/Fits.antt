-- No step of these lists leaves its element.
use Rattle.std.proofs.Common.{◌≡◌, ℕ, ◌-◌, ◌<◌, ◌≤◌, Bool, true, false, cond, List, [], ◌∷◌, refl, arith, inr}
use Rattle.micro_ir.specs.Folding.{has_whole}
use Rattle.micro_ir.specs.Increments.{increment}
use Rattle.micro_ir.specs.Pieces.{StaysIn, above, downs, broadcast}
use Rattle.micro_ir.specs.Steps.{AllFit}
use Rattle.micro_ir.specs.WorkRows.{carry_row, result_row, broadcast_row, truth_row}
use Rattle.micro_ir.proofs.Effects.{downs-fit, broadcast-fits}
use Rattle.micro_ir.proofs.Folds.{level-whole}
use Rattle.micro_ir.proofs.Incrementing.{increment-fits}
use Rattle.micro_ir.proofs.OneElement.{everywhere-fits, clear-fits, above-fits, ranged-fits}
use Rattle.micro_ir.proofs.StepLists.{AllFit-append}
use Rattle.gen_arith.specs.Recipes.{ripple, odd_on, most_on, borrow_on}
use Rattle.gen_arith.proofs.Ripple.{ripple-fits}
use Rattle.gen_shift.specs.Rows.{moved_row}
use Rattle.row_sums.specs.Sums.{total_row, sum_from, halved}
use Rattle.row_sums.proofs.Fits.{sum_from-fits, halved-fits}
use Rattle.gen_fixed.specs.Lists.{overflow_row, operands, carries_of, beyond, halving, half_rows, half_on, is_down, rounding, averaging, low_range, bounded, bound_on, saturating_unsigned, overflow_on, overflowing, saturating_signed}
use Rattle.gen_fixed.specs.Kinds.{saturating}

carries-whole : (sub : Bool) (a b : ℕ) → has_whole (operands a b) (carries_of sub) ≡ true
carries-whole false a b = level-whole (operands a b) most_on refl
carries-whole true a b = level-whole (operands a b) borrow_on refl

beyond-fits : (sub : Bool) (last : List ℕ) (w a b : ℕ) → 0 < w → AllFit w (beyond (carries_of sub) last w a b)
beyond-fits sub last w a b some = (
  clear-fits w carry_row,
  (
    clear-fits w total_row,
    (
      clear-fits w truth_row,
      AllFit-append w (ripple w (operands a b) odd_on (carries_of sub) carry_row total_row w) (above (operands a b) last truth_row (w - 1) 0 ∷ []) (ripple-fits w (operands a b) odd_on (carries_of sub) carry_row total_row w (carries-whole sub a b) (omega arith))
          (above-fits w (operands a b) last truth_row (w - 1) 0 (omega arith) (inr (refl, refl)), tt),
    ),
  ),
)

rounding-fits : (mode w : ℕ) → 0 < w → AllFit w (rounding mode w)
rounding-fits mode w some =
    elim (is_down mode) as (λ b. AllFit w (cond b [] (increment w moved_row (half_rows mode) (half_on mode)))) [
      | true ↦ tt
      | false ↦ increment-fits w moved_row (half_rows mode) (half_on mode) some
    ]

pub averaging-fits : (sub : Bool) (last : List ℕ) (mode w a b : ℕ) → 1 < w → AllFit w (averaging (carries_of sub) last mode w a b)
unfolding averaging
averaging-fits sub last mode w a b wide =
    let half = halved w total_row moved_row truth_row (w - 1) 0 in
    AllFit-append w (halving (carries_of sub) last w a b) (rounding mode w)
    (AllFit-append w (beyond (carries_of sub) last w a b) half (beyond-fits sub last w a b (omega arith)) (halved-fits w total_row moved_row truth_row (w - 1) 0 wide (omega arith)))
    (rounding-fits mode w (omega arith))

low-stays : (lanes n : ℕ) → 0 < lanes → n ≤ lanes → StaysIn lanes (low_range n)
low-stays lanes n some few = record { top = omega arith; low = omega arith; near = some }

pub bounded-fits : (lanes w row out : ℕ) → 0 < w → w ≤ lanes → AllFit lanes (bounded lanes w row out)
bounded-fits lanes w row out some few =
    let rows : List ℕ = overflow_row ∷ broadcast_row ∷ row ∷ [] in (
      clear-fits lanes out,
      (
        ranged-fits lanes rows (1 ∷ 4 ∷ 5 ∷ 6 ∷ []) out (low_range (w - 1)) (low-stays lanes (w - 1) (omega arith) (omega arith)) (inr (refl, refl)),
        (above-fits lanes rows (3 ∷ 4 ∷ 6 ∷ 7 ∷ []) out (w - 1) 0 (omega arith) (inr (refl, refl)), tt),
      ),
    )

unsigned-fits : (sub : Bool) (w a b : ℕ) → 0 < w → AllFit w (saturating_unsigned sub w a b)
unfolding saturating_unsigned
unsigned-fits sub w a b some =
    AllFit-append w (beyond (carries_of sub) (carries_of sub) w a b) _ (beyond-fits sub (carries_of sub) w a b some)
    (AllFit-append w (downs truth_row (w - 1)) _ (downs-fit w truth_row (w - 1) (omega arith)) (clear-fits w result_row, (everywhere-fits w (total_row ∷ truth_row ∷ []) (bound_on sub) result_row, tt)))

signed-fits : (sub : Bool) (w a b : ℕ) → 0 < w → AllFit w (saturating_signed sub w a b)
unfolding saturating_signed
signed-fits sub w a b some =
    AllFit-append w (sum_from w [] [] (operands a b) odd_on (carries_of sub) total_row) _ (sum_from-fits w [] [] (operands a b) odd_on (carries_of sub) total_row some (carries-whole sub a b))
    (AllFit-append w (overflowing sub w a b) _ (
      clear-fits w overflow_row,
      (above-fits w (a ∷ b ∷ total_row ∷ []) (overflow_on sub) overflow_row (w - 1) 0 (omega arith) (inr (refl, refl)), downs-fit w overflow_row (w - 1) (omega arith)),
    ) (AllFit-append w (broadcast w a (w - 1)) _ (broadcast-fits w a (w - 1) (omega arith)) (bounded-fits w w total_row result_row some (omega arith))))

pub saturating-fits : (sign sub : Bool) (w a b : ℕ) → 0 < w → AllFit w (saturating sign sub w a b)
saturating-fits false sub w a b some = unsigned-fits sub w a b some
saturating-fits true sub w a b some = signed-fits sub w a b some
