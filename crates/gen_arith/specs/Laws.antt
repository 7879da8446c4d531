-- The lists realise their kinds, and what they cost.
use Rattle.std.specs.Prelude.{◌≡◌, ◌≢◌, ℕ, ◌+◌, ◌<◌, Bool, true, ◌||◌, List, [], ◌∷◌}
use Rattle.cam_chain.specs.declared.counts.Counts.{Counts}
use Rattle.micro_ir.specs.Measures.{Measured}
use Rattle.micro_ir.specs.Steps.{micros}
use Rattle.micro_ir.specs.WorkRows.{result_row}
use Rattle.micro_ir.specs.Kinds.{Realises}
use Rattle.micro_ir.specs.WorkRows.{carry_row, truth_row}
use Rattle.gen_arith.specs.Recipes.{SumTables, sum_steps, TruthTables, truth_steps, choice_steps}
use Rattle.micro_ir.specs.Kinds.{Tells}
use Rattle.micro_ir.specs.declared.place.Place.{Place}
use Rattle.gen_arith.specs.declared.kinds.Sum.{Sum}
use Rattle.gen_arith.specs.declared.kinds.Truth.{Truth}
use Rattle.gen_arith.specs.declared.kinds.Choice.{Choice}
use Rattle.gen_arith.specs.Kinds.{sum_takes_mask, sum_value, sum_ops, truth_takes_mask, truth_value, truth_ops, choice_value, choice_ops}

-- no row of the list is one of these two
abbrev pub Apart : (c d : ℕ) → List ℕ → Type 0
Apart c d [] = Unit {0}
Apart c d (r ∷ rs) = (r ≢ c) × (r ≢ d) × Apart c d rs

-- The sum's list realises a kind at every width, from operands that are not the rows it works in. They may be one row.
abbrev pub SumNumbers : SumTables → (value : (w a b : ℕ) → ℕ) → Type 0
SumNumbers k value =
    (w a b to : ℕ) (reads : Bool) → 0 < w → Apart carry_row result_row (a ∷ b ∷ []) → to < 32
    → Realises w to reads (λ n c. value w (n a) (n b)) (micros w (sum_steps k w a b to))

-- the same where the mask bit is an operand
abbrev pub CarriedNumbers : SumTables → (value : (w a b : ℕ) → Bool → ℕ) → Type 0
CarriedNumbers k value =
    (w a b to : ℕ) → 0 < w → Apart carry_row result_row (a ∷ b ∷ []) → to < 32
    → Realises w to true (λ n c. value w (n a) (n b) c) (micros w (sum_steps k w a b to))

-- Each search, each update and each pass of these lists, which is by one subarray, is one operation.
abbrev pub operations_in : Counts → ℕ
operations_in c = c.searches + c.updates + c.passes

abbrev pub SumMeasured : SumTables → (ℕ → Counts) → Type 0
SumMeasured k all = (w a b to : ℕ) → 0 < w → to < 32 → Measured (all w) (operations_in (all w)) (micros w (sum_steps k w a b to))

-- The comparison's list tells a truth at every width.
abbrev pub TruthNumbers : TruthTables → (truth : (w a b : ℕ) → Bool) → Type 0
TruthNumbers k truth =
    (w a b : ℕ) (reads : Bool) → 0 < w → Apart carry_row truth_row (a ∷ b ∷ []) → Tells w reads (λ n c. truth w (n a) (n b)) (micros w (truth_steps k w a b))

-- the same where the mask bit is an operand
abbrev pub CarriedTruths : TruthTables → (truth : (w a b : ℕ) → Bool → Bool) → Type 0
CarriedTruths k truth =
    (w a b : ℕ) → 0 < w → Apart carry_row truth_row (a ∷ b ∷ []) → Tells w true (λ n c. truth w (n a) (n b) c) (micros w (truth_steps k w a b))

abbrev pub TruthMeasured : TruthTables → (ℕ → Counts) → Type 0
TruthMeasured k all = (w a b : ℕ) → 0 < w → Measured (all w) (operations_in (all w)) (micros w (truth_steps k w a b))

-- The list that chooses one of two realises a kind at every width.
abbrev pub ChoiceNumbers : TruthTables → (on : List ℕ) → (value : (w a b : ℕ) → ℕ) → Type 0
ChoiceNumbers k on value =
    (w a b to : ℕ) (reads : Bool) → 0 < w → Apart carry_row truth_row (a ∷ b ∷ []) → a ≢ result_row → b ≢ result_row → to < 32
    → Realises w to reads (λ n c. value w (n a) (n b)) (micros w (choice_steps k on w a b to))

abbrev pub ChoiceMeasured : TruthTables → (on : List ℕ) → (ℕ → Counts) → Type 0
ChoiceMeasured k on all = (w a b to : ℕ) → 0 < w → to < 32 → Measured (all w) (operations_in (all w)) (micros w (choice_steps k on w a b to))

-- ---- the lists of kinds, with the rows of a place

-- They realise their values, or tell their truths, whether the mask is read beside them or not; where it is an operand, it is
-- read.
abbrev pub RealisesSum : Sum → (w : ℕ) → Place → Type 0
RealisesSum kind w at = (reads : Bool) → Realises w at.to (sum_takes_mask kind || reads) (λ n c. sum_value kind w (n at.a) (n at.b) c) (sum_ops kind w at)

abbrev pub TellsTruth : Truth → (w : ℕ) → Place → Type 0
TellsTruth kind w at = (reads : Bool) → Tells w (truth_takes_mask kind || reads) (λ n c. truth_value kind w (n at.a) (n at.b) c) (truth_ops kind w at)

abbrev pub RealisesChoice : Choice → (w : ℕ) → Place → Type 0
RealisesChoice kind w at = (reads : Bool) → Realises w at.to reads (λ n c. choice_value kind w (n at.a) (n at.b)) (choice_ops kind w at)
