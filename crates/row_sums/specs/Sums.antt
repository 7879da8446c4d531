-- Sums of rows, which carry from bit to bit, and rows moved by one place.
use Rattle.std.specs.Prelude.{ℕ, ◌+◌, ◌-◌, ◌*◌, Bool, true, false, List, [], ◌∷◌, ◌++◌, length}
use Rattle.micro_ir.specs.Steps.{Step}
use Rattle.micro_ir.specs.WorkRows.{carry_row}
use Rattle.micro_ir.specs.Pieces.{above, below, clear}
use Rattle.gen_arith.specs.Recipes.{ripple}
use Rattle.gen_shift.specs.Rows.{is_odd}
use Rattle.gen_shift.specs.Lists.{slide}
use Rattle.row_sums.specs.declared.rows.TheConstants.{TOTAL_ROW, HALF_ROW, OTHER_HALF_ROW}

-- ---- rows

abbrev pub total_row : ℕ
total_row = TOTAL_ROW

-- where the low half stands: two rows that change their roles at every round
abbrev pub half_role : (odd : Bool) → ℕ
half_role false = HALF_ROW
half_role true = OTHER_HALF_ROW

-- the same after n rounds
abbrev pub half_after : ℕ → ℕ
half_after n = half_role (is_odd n)

-- ---- sums

-- a sum without a carry out, whose carry into the lowest bit is made of the rows `from`
abbrev pub sum_from : (w : ℕ) (from from_on inputs digits carries : List ℕ) (out : ℕ) → List Step
sum_from w from from_on inputs digits carries out =
    clear w carry_row ∷ above from from_on carry_row 0 0 ∷ clear w out ∷ ripple w inputs digits carries carry_row out w

-- a sum from nothing carried in, with the carry out of it at the highest bit of a row
abbrev pub total : (w : ℕ) (inputs digits carries : List ℕ) (out top : ℕ) → List Step
total w inputs digits carries out top =
    clear w carry_row ∷ clear w out ∷ clear w top ∷ (ripple w inputs digits carries carry_row out w ++ above inputs carries top (w - 1) 0 ∷ [])

-- their operations: a search for each value of a table, an update, and a pass for each carry
abbrev pub ripple_length : (w : ℕ) (digits carries : List ℕ) → ℕ
ripple_length w digits carries = (w - 1) * (length digits + length carries + 3) + (length digits + 1)

abbrev pub total_length : (w : ℕ) (digits carries : List ℕ) → ℕ
total_length w digits carries = ripple_length w digits carries + (length carries + 7)

-- ---- rows moved by one place

abbrev pub shifted_once : (w : ℕ) (up : Bool) (from out : ℕ) → List Step
shifted_once w up from out = clear w out ∷ slide w up from out 1 ∷ []

-- down, with bit j of another row at the top
abbrev pub halved : (w from out other j times : ℕ) → List Step
halved w from out other j times = shifted_once w false from out ++ above (other ∷ []) (1 ∷ []) out j times ∷ []

-- up, with the top bit of another row at the bottom
abbrev pub doubled : (w from out other : ℕ) → List Step
doubled w from out other = shifted_once w true from out ++ below (other ∷ []) (1 ∷ []) out (w - 1) (w - 1) ∷ []
