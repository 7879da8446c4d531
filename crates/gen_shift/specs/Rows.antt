-- The rows that shifts work in.
use Rattle.std.specs.Prelude.{ℕ, ◌%◌, Bool, true, false, cond, ◌||◌, eqb, List, [], ◌∷◌}
use Rattle.micro_ir.specs.WorkRows.{carry_row, result_row, broadcast_row}
use Rattle.gen_shift.specs.declared.rows.TheConstants.{SHIFTED_ROW, NEXT_ROW, MOVED_ROW, LAST_ROW, NEXT_LAST_ROW, MORE_ROW, SIGN_ROW}

-- what is shifted, moved by the places of a stage
abbrev pub moved_row : ℕ
moved_row = MOVED_ROW

-- whether a bit below the last one that was shifted out is 1
abbrev pub more_row : ℕ
more_row = MORE_ROW

-- the sign of an element in all its bits
abbrev pub sign_row : ℕ
sign_row = SIGN_ROW

-- where what is shifted stands: two rows that change their roles at every stage
abbrev pub shift_role : (odd : Bool) → ℕ
shift_role false = SHIFTED_ROW
shift_role true = NEXT_ROW

abbrev pub is_odd : ℕ → Bool
is_odd n = eqb (n % 2) 1

-- the same after n stages
abbrev pub shifted_row : ℕ → ℕ
shifted_row n = shift_role (is_odd n)

-- the last bit that was shifted out: two rows that change their roles with those
abbrev pub last_role : (odd : Bool) → ℕ
last_role false = LAST_ROW
last_role true = NEXT_LAST_ROW

abbrev pub last_row : ℕ → ℕ
last_row n = last_role (is_odd n)

-- whether a row is one of a list
abbrev pub is_among : List ℕ → ℕ → Bool
is_among [] r = false
is_among (x ∷ xs) r = eqb r x || is_among xs r

-- the rows that stages write, where what goes out is kept and where it is not
abbrev pub stage_rows : (keeps : Bool) → List ℕ
stage_rows false = broadcast_row ∷ moved_row ∷ SHIFTED_ROW ∷ NEXT_ROW ∷ []
stage_rows true = LAST_ROW ∷ NEXT_LAST_ROW ∷ more_row ∷ broadcast_row ∷ moved_row ∷ SHIFTED_ROW ∷ NEXT_ROW ∷ []

-- the rows that a shift before its commit writes, the same
abbrev pub work_rows : (keeps : Bool) → List ℕ
work_rows keeps = sign_row ∷ stage_rows keeps

-- the rows that shifts write, and those that the shifts that round write
abbrev pub shift_rows : List ℕ
shift_rows = work_rows false

abbrev pub rounding_rows : List ℕ
rounding_rows = carry_row ∷ result_row ∷ work_rows true

-- where a shift that rounds stands before its commit: what is rounded down is the shifted row itself
abbrev pub rounded_row : (mode n : ℕ) → ℕ
rounded_row mode n = cond (eqb mode 2) (shifted_row n) result_row
