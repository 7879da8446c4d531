-- When a list of operations computes a kind of operation: its operands stand in rows, its result in a register. It does so
-- in each element by itself, from any state of the slices.
use Rattle.std.specs.Prelude.{◌≡◌, ◌≢◌, ℕ, ◌+◌, ◌-◌, ◌*◌, ◌<◌, ◌≤◌, Bool, true, false, cond, List, ◌⊎◌}
use Rattle.bit_laws.specs.Numbers.{number, low}
use Rattle.bit_rows.specs.Slices.{Slices}
use Rattle.micro_ir.specs.declared.op.MicroOp.{MicroOp}
use Rattle.micro_ir.specs.Replay.{replay}
use Rattle.micro_ir.specs.Steps.{element}
use Rattle.micro_ir.specs.WorkRows.{active_row, mask_row, scalar_row, truth_row, free_row}

-- What a kind's list makes of one element: `to` gets the value where the element is active. The value is one of the rows'
-- numbers and, where the mask is an operand, of the mask bit c. The other registers and the rows of active elements, of
-- mask bits and of the scalar stay.
pub record Writes (w to : ℕ) (reads : Bool) (value : (ℕ → ℕ) → Bool → ℕ) (e now : ℕ → ℕ → Bool) : Type 0 where
  pub active : ((j : ℕ) → j < w → e active_row j ≡ true) → (c : Bool) → (reads ≡ true → (j : ℕ) → j < w → e mask_row j ≡ c)
      → number w (now to) ≡ low w (value (λ r. number w (e r)) c)
  pub idle : ((j : ℕ) → j < w → e active_row j ≡ false) → (j : ℕ) → j < w → now to j ≡ e to j
  pub kept : (r j : ℕ) → r ≤ scalar_row → r ≢ to → j < w → now r j ≡ e r j

-- the list realises the kind
unfoldable pub Realises : (w to : ℕ) (reads : Bool) (value : (ℕ → ℕ) → Bool → ℕ) → List MicroOp → Type 0
Realises w to reads value ops =
    (s : Slices) (k col : ℕ) → k * w + w ≤ 32 → col < s.columns → Writes w to reads value (element w k col s) (element w k col (replay ops s))

-- The same for a kind that acts bit by bit. It asks nothing of the row of active elements.
pub record WritesBits (w to : ℕ) (value : (ℕ → Bool) → Bool) (e now : ℕ → ℕ → Bool) : Type 0 where
  pub bits : (j : ℕ) → j < w → now to j ≡ cond (e active_row j) (value (λ r. e r j)) (e to j)
  pub kept : (r j : ℕ) → r ≤ scalar_row → r ≢ to → j < w → now r j ≡ e r j

unfoldable pub RealisesBits : (w to : ℕ) (value : (ℕ → Bool) → Bool) → List MicroOp → Type 0
RealisesBits w to value ops =
    (s : Slices) (k col : ℕ) → k * w + w ≤ 32 → col < s.columns → WritesBits w to value (element w k col s) (element w k col (replay ops s))

-- The same for a kind that makes a mask. Its list tells a truth of each element, active or not, at the highest bit of the row
-- of truths: a truth of the rows' numbers and, where the mask is an operand, of the mask bit c. The registers and the rows of
-- active elements, of mask bits, of the scalar and of agnostic elements stay.
pub record Truths (w : ℕ) (reads : Bool) (truth : (ℕ → ℕ) → Bool → Bool) (e now : ℕ → ℕ → Bool) : Type 0 where
  pub told : (c : Bool) → (reads ≡ true → (j : ℕ) → j < w → e mask_row j ≡ c) → now truth_row (w - 1) ≡ truth (λ r. number w (e r)) c
  pub kept : (r j : ℕ) → (r ≤ scalar_row) ⊎ (r ≡ free_row) → j < w → now r j ≡ e r j

unfoldable pub Tells : (w : ℕ) (reads : Bool) (truth : (ℕ → ℕ) → Bool → Bool) → List MicroOp → Type 0
Tells w reads truth ops =
    (s : Slices) (k col : ℕ) → k * w + w ≤ 32 → col < s.columns → Truths w reads truth (element w k col s) (element w k col (replay ops s))
