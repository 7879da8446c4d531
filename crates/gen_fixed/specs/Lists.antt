-- The lists of fixed point: sums and differences with the bit beyond the highest, halves of them, and clips.
use Rattle.std.specs.Prelude.{ℕ, zero, suc, ◌+◌, ◌-◌, ◌*◌, Bool, true, false, cond, eqb, List, [], ◌∷◌, ◌++◌}
use Rattle.micro_ir.specs.Steps.{Step}
use Rattle.micro_ir.specs.WorkRows.{carry_row, result_row, broadcast_row, truth_row}
use Rattle.micro_ir.specs.declared.pieces.BitRange.{BitRange}
use Rattle.micro_ir.specs.Pieces.{everywhere, ranged, above, below, clear, commit, downs, broadcast}
use Rattle.micro_ir.specs.Increments.{increment}
use Rattle.gen_arith.specs.Recipes.{ripple, odd_on, most_on, most_not_on, borrow_on}
use Rattle.gen_shift.specs.Rows.{moved_row}
use Rattle.row_sums.specs.Sums.{total_row, sum_from, halved}
use Rattle.gen_fixed.specs.declared.rows.TheConstants.{OVERFLOW_ROW, CLIPPED_ROW}
use Rattle.gen_fixed.specs.declared.kinds.Clipping.{Clipping}
use Rattle.gen_fixed.specs.declared.kinds.Clipping.TheVariants.{Clipu, Clip}

-- ---- rows

-- whether a number overflows, in each of its bits
abbrev pub overflow_row : ℕ
overflow_row = OVERFLOW_ROW

-- a number that is clipped
abbrev pub clipped_row : ℕ
clipped_row = CLIPPED_ROW

-- ---- sums and differences

-- the tables read the carry, a and b
abbrev pub operands : (a b : ℕ) → List ℕ
operands a b = carry_row ∷ a ∷ b ∷ []

-- the carries of a sum, or the borrows of a difference
abbrev pub carries_of : (sub : Bool) → List ℕ
carries_of false = most_on
carries_of true = borrow_on

-- the highest bit of a sum with a sign, one place beyond the highest of its operands
abbrev pub sign_of_sum_on : List ℕ
sign_of_sum_on = 2 ∷ 4 ∷ 6 ∷ 7 ∷ []

-- The bit beyond the highest one: the carry or the borrow, or the sign of the sum or the difference.
abbrev pub beyond_on : (sign sub : Bool) → List ℕ
beyond_on false sub = carries_of sub
beyond_on true false = sign_of_sum_on
beyond_on true true = most_not_on

-- the digits in the row of totals, and the bit beyond them at the highest bit of the row of truths
abbrev pub beyond : (carries last : List ℕ) (w a b : ℕ) → List Step
beyond carries last w a b =
    clear w carry_row ∷ clear w total_row ∷ clear w truth_row
    ∷ (ripple w (operands a b) odd_on carries carry_row total_row w ++ above (operands a b) last truth_row (w - 1) 0 ∷ [])

-- ---- averages

-- half of the total, rounded down, in the moved row
abbrev pub halving : (carries last : List ℕ) (w a b : ℕ) → List Step
halving carries last w a b = beyond carries last w a b ++ halved w total_row moved_row truth_row (w - 1) 0

-- The rows and the values of the bit that a mode adds: the lowest bit of the total is the one that is halved away.
abbrev pub half_rows : (mode : ℕ) → List ℕ
half_rows zero = total_row ∷ []
half_rows (suc mode) = total_row ∷ moved_row ∷ []

abbrev pub half_on : (mode : ℕ) → List ℕ
half_on zero = 1 ∷ []
half_on (suc zero) = 3 ∷ []
half_on (suc (suc mode)) = 1 ∷ []

-- the mode that adds nothing
abbrev pub is_down : (mode : ℕ) → Bool
is_down mode = eqb mode 2

-- what a mode adds
abbrev pub rounding : (mode w : ℕ) → List Step
rounding mode w = cond (is_down mode) [] (increment w moved_row (half_rows mode) (half_on mode))

unfoldable pub averaging : (carries last : List ℕ) (mode w a b : ℕ) → List Step
averaging carries last mode w a b = halving carries last w a b ++ rounding mode w

abbrev pub average_row : (mode : ℕ) → ℕ
average_row mode = cond (is_down mode) moved_row result_row

abbrev pub average_steps : (sign sub : Bool) (mode w a b to : ℕ) → List Step
average_steps sign sub mode w a b to = averaging (carries_of sub) (beyond_on sign sub) mode w a b ++ commit w (average_row mode) to

-- ---- clips to a range

-- the bits of an element below bit n
abbrev pub low_range : (n : ℕ) → BitRange
low_range n = record { from = 0; to = n; up = true; times = 0 }

-- The low w bits of a row into the row `out`, or where the number overflows the bound on the side of its sign: the sign at bit
-- w - 1, its inverse below. The rows are as wide as `lanes` says.
abbrev pub bounded : (lanes w row out : ℕ) → List Step
bounded lanes w row out =
    clear lanes out ∷ ranged (overflow_row ∷ broadcast_row ∷ row ∷ []) (1 ∷ 4 ∷ 5 ∷ 6 ∷ []) out (low_range (w - 1))
    ∷ above (overflow_row ∷ broadcast_row ∷ row ∷ []) (3 ∷ 4 ∷ 6 ∷ 7 ∷ []) out (w - 1) 0 ∷ []

-- without signs: the total or, where there is a bit beyond, the bound of all ones or of all zeros
abbrev pub bound_on : (sub : Bool) → List ℕ
bound_on false = 1 ∷ 2 ∷ 3 ∷ []
bound_on true = 1 ∷ []

unfoldable pub saturating_unsigned : (sub : Bool) (w a b : ℕ) → List Step
saturating_unsigned sub w a b =
    beyond (carries_of sub) (carries_of sub) w a b
    ++ (downs truth_row (w - 1) ++ clear w result_row ∷ everywhere w (total_row ∷ truth_row ∷ []) (bound_on sub) result_row true ∷ [])

-- with signs: a sum overflows where the signs of a and b are alike and that of the total is not, a difference where those of a
-- and b differ and that of the total is not a's
abbrev pub overflow_on : (sub : Bool) → List ℕ
overflow_on false = 3 ∷ 4 ∷ []
overflow_on true = 1 ∷ 6 ∷ []

abbrev pub overflowing : (sub : Bool) (w a b : ℕ) → List Step
overflowing sub w a b = clear w overflow_row ∷ above (a ∷ b ∷ total_row ∷ []) (overflow_on sub) overflow_row (w - 1) 0 ∷ downs overflow_row (w - 1)

unfoldable pub saturating_signed : (sub : Bool) (w a b : ℕ) → List Step
saturating_signed sub w a b =
    sum_from w [] [] (operands a b) odd_on (carries_of sub) total_row
    ++ (overflowing sub w a b ++ (broadcast w a (w - 1) ++ bounded w w total_row result_row))

-- ---- clips of wide numbers, each of 2w bits, to w bits

-- the first m bits from bit w on, or-ed into bit w - 1 of the overflow
unfoldable pub high_bits : (x w m : ℕ) → List Step
high_bits x w zero = []
high_bits x w (suc m) = high_bits x w m ++ below (x ∷ []) (1 ∷ []) overflow_row (w + m) (m + 1) ∷ []

-- whether one of the first m bits from bit n on differs from the sign, into bit n of the overflow
unfoldable pub differing : (x n m : ℕ) → List Step
differing x n zero = []
differing x n (suc m) = differing x n m ++ below (x ∷ broadcast_row ∷ []) (1 ∷ 2 ∷ []) overflow_row (n + m) m ∷ []

unfoldable pub clipping_unsigned : (w x : ℕ) → List Step
clipping_unsigned w x =
    clear (2 * w) overflow_row
    ∷ (high_bits x w w
    ++ (downs overflow_row (w - 1) ++ clear (2 * w) clipped_row ∷ everywhere (2 * w) (x ∷ overflow_row ∷ []) (1 ∷ 2 ∷ 3 ∷ []) clipped_row true ∷ []))

unfoldable pub clipping_signed : (w x : ℕ) → List Step
clipping_signed w x =
    broadcast (2 * w) x (2 * w - 1)
    ++ clear (2 * w) overflow_row ∷ (differing x (w - 1) w ++ (downs overflow_row (w - 1) ++ bounded (2 * w) w x clipped_row))

abbrev pub clipping : Clipping → (w x : ℕ) → List Step
clipping Clipu w x = clipping_unsigned w x
clipping Clip w x = clipping_signed w x
