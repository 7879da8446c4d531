-- When a list of operations tells the truths of a register's elements: the operations between its windows and the mask.
use Rattle.std.specs.Prelude.{◌≡◌, ℕ, ◌+◌, ◌-◌, ◌*◌, ◌<◌, ◌≤◌, Bool, true, List, ◌⊎◌}
use Rattle.std.specs.Int.{from_bool}
use Rattle.bit_laws.specs.Numbers.{low}
use Rattle.bit_rows.specs.Slices.{Slices}
use Rattle.steer_net.specs.Network.{bit_in}
use Rattle.micro_ir.specs.declared.op.MicroOp.{MicroOp}
use Rattle.micro_ir.specs.Replay.{replay}
use Rattle.micro_ir.specs.Steps.{element}
use Rattle.micro_ir.specs.WorkRows.{mask_row, scalar_row, truth_row, free_row}
use Rattle.frame_laws.specs.Shapes.{Shape, Bounds, element_number}
use Rattle.frame_laws.specs.Realising.{Splatted, Windowed}

-- What the list of register g makes of one element, active or not: the highest bit of the row of truths gets the element's
-- result, a bit. The registers and the rows of active elements, of mask bits, of the scalar and of agnostic elements stay.
pub record Says (i : Shape) (g k col : ℕ) (s : Slices) (e now : ℕ → ℕ → Bool) : Type 0 where
  pub told : (c : Bool) → (i.reads ≡ true → (j : ℕ) → j < i.width → e mask_row j ≡ c)
      → from_bool (now truth_row (i.width - 1)) ≡ low 1 (i.result (bit_in s) (element_number i g k col) c)
  pub kept : (r j : ℕ) → (r ≤ scalar_row) ⊎ (r ≡ free_row) → j < i.width → now r j ≡ e r j

-- The list tells the truths of register g: from any state in which the scalar and the windows stand in their rows it does
-- so of each element.
unfoldable pub Told : Shape → Bounds → (g : ℕ) → (body : List MicroOp) → Type 0
Told i b g body =
    (s : Slices) → i.vlen ≡ 32 * s.columns → Splatted i s → Windowed i b g s
    → (k col : ℕ) → k * i.width + i.width ≤ 32 → col < s.columns
    → Says i g k col s (element i.width k col s) (element i.width k col (replay body s))
