-- The lists, as they are written.
use Rattle.std.proofs.Common.{◌≡◌, ℕ, ◌-◌, Bool, true, false, List, [], ◌∷◌, ◌++◌, refl, ◌∙◌, ap, append_assoc}
use Rattle.micro_ir.specs.Increments.{increment}
use Rattle.micro_ir.specs.Pieces.{everywhere, ranged, above, clear, commit, downs, broadcast}
use Rattle.micro_ir.specs.Steps.{micro, micros}
use Rattle.micro_ir.specs.WorkRows.{carry_row, result_row, broadcast_row, truth_row}
use Rattle.micro_ir.proofs.StepLists.{micros-append, micros-one}
use Rattle.gen_arith.specs.Recipes.{ripple, odd_on}
use Rattle.gen_shift.specs.Rows.{moved_row}
use Rattle.row_sums.specs.Sums.{total_row, sum_from, halved}
use Rattle.row_sums.proofs.Written.{sum-list}
use Rattle.gen_fixed.specs.Lists.{overflow_row, operands, carries_of, beyond_on, beyond, halving, half_rows, half_on, is_down, rounding, averaging, average_row, average_steps, low_range, bounded, bound_on, saturating_unsigned, overflow_on, overflowing, saturating_signed}

pub beyond-list : (carries last : List ℕ) (w a b : ℕ)
    → micros w (beyond carries last w a b)
    ≡ micro w (clear w carry_row)
    ++ (micro w (clear w total_row)
    ++ (micro w (clear w truth_row) ++ (micros w (ripple w (operands a b) odd_on carries carry_row total_row w) ++ micro w (above (operands a b) last truth_row (w - 1) 0))))
unfolding micros
beyond-list carries last w a b =
    let rip = ripple w (operands a b) odd_on carries carry_row total_row w in
    let one = above (operands a b) last truth_row (w - 1) 0 in
    ap (λ l. micro w (clear w carry_row) ++ (micro w (clear w total_row) ++ (micro w (clear w truth_row) ++ l)))
    (micros-append w rip (one ∷ []) ∙ ap (λ l. micros w rip ++ l) (micros-one w one))

pub halving-list : (carries last : List ℕ) (w a b : ℕ)
    → micros w (halving carries last w a b) ≡ micros w (beyond carries last w a b) ++ micros w (halved w total_row moved_row truth_row (w - 1) 0)
halving-list carries last w a b = micros-append w (beyond carries last w a b) (halved w total_row moved_row truth_row (w - 1) 0)

-- what a mode adds, where it is something and where it is not
pub rounding-none : (mode w : ℕ) → is_down mode ≡ true → micros w (rounding mode w) ≡ []
unfolding micros
rounding-none mode w is = rw is refl

pub rounding-some : (mode w : ℕ) → is_down mode ≡ false → micros w (rounding mode w) ≡ micros w (increment w moved_row (half_rows mode) (half_on mode))
rounding-some mode w is = rw is refl

pub average-list : (sign sub : Bool) (mode w a b to : ℕ)
    → micros w (average_steps sign sub mode w a b to)
    ≡ micros w (halving (carries_of sub) (beyond_on sign sub) w a b) ++ (micros w (rounding mode w) ++ micros w (commit w (average_row mode) to))
unfolding averaging
average-list sign sub mode w a b to =
    let h = halving (carries_of sub) (beyond_on sign sub) w a b in
    let r = rounding mode w in
    let c = commit w (average_row mode) to in
    micros-append w (h ++ r) c ∙ rw (micros-append w h r) (append_assoc (micros w h) (micros w r) (micros w c))

pub bounded-list : (lanes w row out : ℕ)
    → micros lanes (bounded lanes w row out)
    ≡ micro lanes (clear lanes out)
    ++ (micro lanes (ranged (overflow_row ∷ broadcast_row ∷ row ∷ []) (1 ∷ 4 ∷ 5 ∷ 6 ∷ []) out (low_range (w - 1)))
    ++ micro lanes (above (overflow_row ∷ broadcast_row ∷ row ∷ []) (3 ∷ 4 ∷ 6 ∷ 7 ∷ []) out (w - 1) 0))
unfolding micros
bounded-list lanes w row out =
    let low = ranged (overflow_row ∷ broadcast_row ∷ row ∷ []) (1 ∷ 4 ∷ 5 ∷ 6 ∷ []) out (low_range (w - 1)) in
    let high = above (overflow_row ∷ broadcast_row ∷ row ∷ []) (3 ∷ 4 ∷ 6 ∷ 7 ∷ []) out (w - 1) 0 in
    ap (λ l. micro lanes (clear lanes out) ++ (micro lanes low ++ l)) (micros-one lanes high)

pub unsigned-list : (sub : Bool) (w a b : ℕ)
    → micros w (saturating_unsigned sub w a b)
    ≡ micros w (beyond (carries_of sub) (carries_of sub) w a b)
    ++ (micros w (downs truth_row (w - 1)) ++ (micro w (clear w result_row) ++ micro w (everywhere w (total_row ∷ truth_row ∷ []) (bound_on sub) result_row true)))
unfolding saturating_unsigned micros
unsigned-list sub w a b =
    let first = beyond (carries_of sub) (carries_of sub) w a b in
    let spread = downs truth_row (w - 1) in
    let c = clear w result_row in
    let d = everywhere w (total_row ∷ truth_row ∷ []) (bound_on sub) result_row true in
    micros-append w first (spread ++ (c ∷ d ∷ []))
    ∙ ap (λ l. micros w first ++ l) (micros-append w spread (c ∷ d ∷ []) ∙ ap (λ l. micros w spread ++ (micro w c ++ l)) (micros-one w d))

pub overflowing-list : (sub : Bool) (w a b : ℕ)
    → micros w (overflowing sub w a b)
    ≡ micro w (clear w overflow_row) ++ (micro w (above (a ∷ b ∷ total_row ∷ []) (overflow_on sub) overflow_row (w - 1) 0) ++ micros w (downs overflow_row (w - 1)))
unfolding micros
overflowing-list sub w a b = refl

-- the digits alone
pub sums-list : (sub : Bool) (w a b : ℕ)
    → micros w (sum_from w [] [] (operands a b) odd_on (carries_of sub) total_row)
    ≡ micro w (clear w carry_row) ++ (micro w (clear w total_row) ++ micros w (ripple w (operands a b) odd_on (carries_of sub) carry_row total_row w))
sums-list sub w a b = sum-list w (operands a b) odd_on (carries_of sub) total_row

pub signed-list : (sub : Bool) (w a b : ℕ)
    → micros w (saturating_signed sub w a b)
    ≡ micros w (sum_from w [] [] (operands a b) odd_on (carries_of sub) total_row)
    ++ (micros w (overflowing sub w a b) ++ (micros w (broadcast w a (w - 1)) ++ micros w (bounded w w total_row result_row)))
unfolding saturating_signed
signed-list sub w a b =
    let sums = sum_from w [] [] (operands a b) odd_on (carries_of sub) total_row in
    let flag = overflowing sub w a b in
    let cast = broadcast w a (w - 1) in
    let last = bounded w w total_row result_row in
    micros-append w sums (flag ++ (cast ++ last))
    ∙ ap (λ l. micros w sums ++ l) (micros-append w flag (cast ++ last) ∙ ap (λ l. micros w flag ++ l) (micros-append w cast last))
