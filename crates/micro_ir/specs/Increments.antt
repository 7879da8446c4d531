-- Steps from bit to bit; and the list that adds a bit to each element of a row, with what it makes of the rows.
use Rattle.std.specs.Prelude.{◌≡◌, ◌≢◌, ℕ, ◌+◌, ◌*◌, ◌<◌, ◌≤◌, Bool, cond, zero, suc, List, [], ◌∷◌, ◌++◌, take, eqb}
use Rattle.std.specs.Int.{from_bool}
use lib.Dec.{ltb}
use Rattle.bit_laws.specs.Numbers.{number, low}
use Rattle.bit_rows.specs.Slices.{Slices}
use Rattle.micro_ir.specs.declared.op.MicroOp.{MicroOp}
use Rattle.micro_ir.specs.declared.tables.TableStep.{TableStep}
use Rattle.micro_ir.specs.Replay.{replay}
use Rattle.micro_ir.specs.Steps.{Step, fires, element, micros}
use Rattle.micro_ir.specs.Subs.{subs_of, between}
use Rattle.micro_ir.specs.Tables.{values_of}
use Rattle.micro_ir.specs.WorkRows.{carry_row, result_row}
use Rattle.micro_ir.specs.Pieces.{above, clear}

-- One bit: its digit, and the carry out of it into the carry row one bit above, but at the highest bit. A table of no
-- values makes no operation.
abbrev pub digit : (w : ℕ) (inputs digits carries : List ℕ) (carry out j : ℕ) → List Step
digit w inputs digits carries carry out j = above inputs digits out j 0 ∷ cond (ltb (suc j) w) (above inputs carries carry j 1 ∷ []) []

-- the lowest n bits, in rising order
unfoldable pub ripple : (w : ℕ) (inputs digits carries : List ℕ) (carry out n : ℕ) → List Step
ripple w inputs digits carries carry out zero = []
ripple w inputs digits carries carry out (suc n) = ripple w inputs digits carries carry out n ++ digit w inputs digits carries carry out n

-- the digits of a sum of two bits, and the carry out of it
abbrev pub half_digits : List ℕ
half_digits = 1 ∷ 2 ∷ []

abbrev pub half_carries : List ℕ
half_carries = 3 ∷ []

-- row x plus the carry, from bit to bit, into the result row
abbrev pub half_sums : (w x n : ℕ) → List Step
half_sums w x n = ripple w (x ∷ carry_row ∷ []) half_digits half_carries carry_row result_row n

-- Row x plus one where the rows' bits at the lowest place have one of the values, into the result row.
unfoldable pub increment : (w x : ℕ) (inputs on : List ℕ) → List Step
increment w x inputs on = clear w carry_row ∷ above inputs on carry_row 0 0 ∷ clear w result_row ∷ half_sums w x w

-- The rows and the values of a step that makes the bit that is added, and the subarrays of the lowest bits.
abbrev pub step_inputs : TableStep → List ℕ
step_inputs step = take step.n step.inputs

-- The operations that add to row x the bit that a step makes.
abbrev pub increment_ops : (w x : ℕ) → TableStep → List MicroOp
increment_ops w x step = micros w (increment w x (step_inputs step) (values_of step.on))

abbrev pub lowest_subs : (w : ℕ) → ℕ
lowest_subs w = subs_of w (between 0 1)

-- The list makes the sum of row x and the bit in the result row, at w bits and modulo 2 to the power w, from any state of the
-- slices. Every row but the result row and the carry row stays, as do the control number and the columns.
pub record Increments (w x : ℕ) (inputs on : List ℕ) (ops : List MicroOp) : Type 0 where
  pub sum : (s : Slices) (k col : ℕ) → k * w + w ≤ 32 → col < s.columns
      → number w (element w k col (replay ops s) result_row) ≡ low w (number w (element w k col s x) + from_bool (fires inputs on (λ r. element w k col s r 0)))
  pub kept : (s : Slices) (k col r j : ℕ) → k * w + w ≤ 32 → col < s.columns → r ≢ carry_row → r ≢ result_row
      → element w k col (replay ops s) r j ≡ element w k col s r j
  pub num : (s : Slices) → (replay ops s).num ≡ s.num
  pub columns : (s : Slices) → (replay ops s).columns ≡ s.columns
