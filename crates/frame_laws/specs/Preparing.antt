-- When a list makes the values of a register's elements in a work row, which a commit then takes to the register.
use Rattle.std.specs.Prelude.{◌≡◌, ℕ, ◌+◌, ◌*◌, ◌<◌, ◌≤◌, Bool, true, List, ◌++◌}
use Rattle.bit_laws.specs.Numbers.{number, low}
use Rattle.bit_rows.specs.Slices.{Slices}
use Rattle.steer_net.specs.Network.{bit_in, is_within}
use Rattle.element_ops.specs.Elements.{Registers, element_in}
use Rattle.micro_ir.specs.declared.op.MicroOp.{MicroOp}
use Rattle.micro_ir.specs.Replay.{replay}
use Rattle.micro_ir.specs.Steps.{element, micros}
use Rattle.micro_ir.specs.Pieces.{commit}
use Rattle.micro_ir.specs.WorkRows.{scalar_row}
use Rattle.frame_laws.specs.Shapes.{Shape, Bounds, element_number}
use Rattle.frame_laws.specs.Realising.{Splatted, Windowed, Realised}

-- What a list leaves of one element of register g: its value in the row, where the element is active. The registers and the
-- rows of active elements, of mask bits and of the scalar stay.
pub record Prepares (i : Shape) (b : Bounds) (g row k col : ℕ) (s t : Slices) : Type 0 where
  pub value : is_within b.from i.len i.masked (bit_in s 0) (element_number i g k col) ≡ true → (c : Bool)
      → number i.width (element i.width k col t row) ≡ low i.width (i.result (bit_in s) (element_number i g k col) c)
  pub kept : (r j : ℕ) → r ≤ scalar_row → j < i.width → element i.width k col t r j ≡ element i.width k col s r j

-- the list does so in each element, from any state in which the scalar and the windows stand in their rows
unfoldable pub Prepared : Shape → Bounds → (g row : ℕ) → (body : List MicroOp) → Type 0
Prepared i b g row body =
    (s : Slices) → i.vlen ≡ 32 * s.columns → Splatted i s → Windowed i b g s
    → (k col : ℕ) → k * i.width + i.width ≤ 32 → col < s.columns → Prepares i b g row k col s (replay body s)

-- A list that makes a register's values in a work row, with a commit of that row after it, realises the register.
abbrev pub PreparedLaw : Type 0
PreparedLaw =
    (i : Shape) (b : Bounds) (g row : ℕ) (body : List MicroOp) → 0 < i.width → i.vd + g < 32 → 32 < row → Prepared i b g row body
    → Realised i b g (body ++ micros i.width (commit i.width row (i.vd + g)))

-- An element of a group that lies in the registers from number `low` on and below number `high` of the group depends on
-- these alone.
abbrev pub AgreeingLaw : Type 0
AgreeingLaw =
    (vlen w base e low high : ℕ) (u v : Registers) → 0 < vlen → low * vlen ≤ e * w → e * w + w ≤ high * vlen
    → ((r at : ℕ) → base + low ≤ r → r < base + high → at < vlen → u r at ≡ v r at)
    → element_in vlen u base w e ≡ element_in vlen v base w e
