-- When a list of operations computes a register of a group: the operations between its windows and its fill.
use Rattle.std.specs.Prelude.{◌≡◌, ◌≢◌, ℕ, ◌+◌, ◌*◌, ◌%◌, ◌<◌, ◌≤◌, Bool, true, false, List}
use Rattle.bit_laws.specs.Numbers.{number, low, bit_of}
use Rattle.bit_rows.specs.Slices.{Slices}
use Rattle.steer_net.specs.Network.{bit_in, is_within}
use Rattle.micro_ir.specs.declared.op.MicroOp.{MicroOp}
use Rattle.micro_ir.specs.Replay.{replay}
use Rattle.micro_ir.specs.Steps.{element}
use Rattle.micro_ir.specs.WorkRows.{active_row, mask_row, scalar_row}
use Rattle.frame_laws.specs.Shapes.{Shape, Bounds, element_number}

-- each element of the scalar row is the scalar, where the instruction has one
abbrev pub Splatted : Shape → Slices → Type 0
Splatted i s = i.splat ≡ true → (at : ℕ) → at < 32 * s.columns → bit_in s scalar_row at ≡ bit_of i.scalar (at % 32 % i.scalar_width)

-- The windows of register g stand in their rows, at each of its elements.
pub record Windowed (i : Shape) (b : Bounds) (g : ℕ) (s : Slices) : Type 0 where
  pub active : (k col j : ℕ) → k * i.width + i.width ≤ 32 → col < s.columns → j < i.width
      → element i.width k col s active_row j ≡ is_within b.from i.len i.masked (bit_in s 0) (element_number i g k col)
  pub mask : i.reads ≡ true → (k col j : ℕ) → k * i.width + i.width ≤ 32 → col < s.columns → j < i.width
      → element i.width k col s mask_row j ≡ is_within b.from i.len true (bit_in s 0) (element_number i g k col)

-- What the list of register g makes of one element: its register gets the element's result where the element is active.
pub record Does (i : Shape) (g k col : ℕ) (s : Slices) (e now : ℕ → ℕ → Bool) : Type 0 where
  pub active : ((j : ℕ) → j < i.width → e active_row j ≡ true) → (c : Bool) → (i.reads ≡ true → (j : ℕ) → j < i.width → e mask_row j ≡ c)
      → number i.width (now (i.vd + g)) ≡ low i.width (i.result (bit_in s) (element_number i g k col) c)
  pub idle : ((j : ℕ) → j < i.width → e active_row j ≡ false) → (j : ℕ) → j < i.width → now (i.vd + g) j ≡ e (i.vd + g) j
  pub kept : (r j : ℕ) → r ≤ scalar_row → r ≢ i.vd + g → j < i.width → now r j ≡ e r j

-- The list realises register g: from any state in which the scalar and the windows stand in their rows it does so in
-- each element.
unfoldable pub Realised : Shape → Bounds → (g : ℕ) → (body : List MicroOp) → Type 0
Realised i b g body =
    (s : Slices) → i.vlen ≡ 32 * s.columns → Splatted i s → Windowed i b g s
    → (k col : ℕ) → k * i.width + i.width ≤ 32 → col < s.columns
    → Does i g k col s (element i.width k col s) (element i.width k col (replay body s))
