-- The product of two numbers with signs over 2^(w - 1), rounded and clipped: its list, its value, and what it costs.
use Rattle.std.specs.Prelude.{ℕ, zero, suc, ◌+◌, ◌-◌, ◌*◌, ◌/◌, Bool, false, true, cond, eqb, ℤ, ◌*ℤ◌, List, [], ◌∷◌, ◌++◌, length}
use Rattle.bit_laws.specs.Rounding.{low_int, rounded, clipped, clips}
use Rattle.bit_laws.specs.Signed.{signed}
use Rattle.cam_chain.specs.declared.counts.Counts.{Counts}
use Rattle.micro_ir.specs.Measures.{counts}
use Rattle.micro_ir.specs.Pieces.{ranged, above, below, clear, commit, downs}
use Rattle.micro_ir.specs.Steps.{Step, micros}
use Rattle.micro_ir.specs.WorkRows.{result_row}
use Rattle.micro_ir.specs.declared.op.MicroOp.{MicroOp}
use Rattle.micro_ir.specs.declared.pieces.BitRange.{BitRange}
use Rattle.micro_ir.specs.declared.place.Place.{Place}
use Rattle.row_views.specs.Clips.{clip_test}
use Rattle.gen_shift.specs.Rows.{moved_row, last_role, more_row}
use Rattle.gen_shift.specs.Lists.{mode_on, mode_steps}
use Rattle.row_sums.specs.Sums.{half_after, doubled}
use Rattle.gen_mul.specs.declared.rows.TheConstants.{OVERFLOW_ROW, CLIPPED_ROW}
use Rattle.gen_mul.specs.Lists.{corrected_row, multiplying, both_corrections}

-- ---- rows

-- whether the number is too large, in every bit of its element
abbrev pub overflow_row : ℕ
overflow_row = OVERFLOW_ROW

-- the number, clipped
abbrev pub clipped_row : ℕ
clipped_row = CLIPPED_ROW

-- ---- the quotient, rounded

-- the high half of the product moved up by one place, and the highest bit of the low half below it
abbrev pub quotient : (w : ℕ) → List Step
quotient w = doubled w corrected_row moved_row (half_after w)

-- the n lowest bits of the low half: one of them is 1
unfoldable pub lower : (w n : ℕ) → List Step
lower w zero = []
lower w (suc n) = lower w n ++ below (half_after w ∷ []) (1 ∷ []) more_row n n ∷ []

-- the bits below the quotient: the last one, and whether a lower one is 1
unfoldable pub left_over : (w : ℕ) → List Step
left_over w = clear w (last_role false) ∷ below (half_after w ∷ []) (1 ∷ []) (last_role false) (w - 2) (w - 2) ∷ clear w more_row ∷ lower w (w - 2)

-- the quotient and what a mode adds to it
unfoldable pub rounding : (mode w : ℕ) → List Step
rounding mode w = cond (eqb mode 2) [] (left_over w ++ mode_steps w mode moved_row (last_role false) more_row)

-- where it stands: what is rounded down is the quotient itself
abbrev pub rounded_row : (mode : ℕ) → ℕ
rounded_row mode = cond (eqb mode 2) moved_row result_row

-- ---- clipped

-- the quotient is not negative and its highest bit is 1: it is too large
unfoldable pub flagging : (w : ℕ) → List Step
flagging w = clear w overflow_row ∷ above (corrected_row ∷ moved_row ∷ []) (2 ∷ []) overflow_row (w - 1) 0 ∷ downs overflow_row (w - 1)

-- the bits below the highest one
abbrev pub low_range : (w : ℕ) → BitRange
low_range w = record { from = 0; to = w - 1; up = true; times = 0 }

-- where it is too large the largest number, and else the number of the row
unfoldable pub clipping : (w row : ℕ) → List Step
clipping w row =
    clear w clipped_row
    ∷ ranged (row ∷ overflow_row ∷ []) (1 ∷ 2 ∷ 3 ∷ []) clipped_row (low_range w)
    ∷ above (row ∷ overflow_row ∷ []) (1 ∷ []) clipped_row (w - 1) 0
    ∷ []

-- ---- the kind

unfoldable pub fraction_steps : (mode w a b : ℕ) → List Step
fraction_steps mode w a b =
    (multiplying w a b ++ both_corrections w a b) ++ (quotient w ++ (rounding mode w ++ (flagging w ++ clipping w (rounded_row mode))))

abbrev pub smul_ops : (w : ℕ) → Place → List MicroOp
smul_ops w at = micros w (fraction_steps at.mode w at.a at.b) ++ (clip_test w overflow_row ++ micros w (commit w clipped_row at.to))

-- the product over 2^(w - 1), rounded; its value; and whether it is clipped
abbrev pub fraction : (mode w a b : ℕ) → ℤ
fraction mode w a b = rounded mode (signed w a *ℤ signed w b) (w - 1)

abbrev pub smul_value : (mode w a b : ℕ) → ℕ
smul_value mode w a b = low_int w (clipped w (fraction mode w a b))

abbrev pub smul_clips : (mode w a b : ℕ) → Bool
smul_clips mode w a b = clips w (fraction mode w a b)

abbrev pub smul_counts : (mode w : ℕ) → Counts
smul_counts mode w =
    cond (eqb mode 2) (counts (w * (15 * w + 41) + 8) (w * (3 * w + 17) + 15) (w * (3 * w + 5) - 5))
    (counts (w * (15 * w + 45) + 10 + length (mode_on mode)) (w * (3 * w + 20) + 18) (w * (3 * w + 5) - 5 + w * (w - 1) / 2))

abbrev pub smul_length : (mode w : ℕ) → ℕ
smul_length mode w = w * (20 * w + 64) + 21 + cond (eqb mode 2) 0 (9 * w + 2 + length (mode_on mode))

-- the lengths of its parts
abbrev pub left_length : (w : ℕ) → ℕ
left_length w = 3 * w

abbrev pub rounding_length : (mode w : ℕ) → ℕ
rounding_length mode w = cond (eqb mode 2) 0 (9 * w + 2 + length (mode_on mode))
