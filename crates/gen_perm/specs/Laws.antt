-- What the lists do to the slices, and that they compute the registers of instructions.
use Rattle.std.specs.Prelude.{◌≡◌, ◌≢◌, ℕ, ◌+◌, ◌*◌, ◌/◌, ◌<◌, ◌≤◌, Bool, true, false, cond, List, length}
use Rattle.bit_laws.specs.Numbers.{number, low}
use Rattle.bit_rows.specs.Slices.{Slices}
use Rattle.steer_net.specs.Network.{bit_in, is_within}
use Rattle.element_ops.specs.Elements.{Registers}
use Rattle.micro_ir.specs.declared.op.MicroOp.{MicroOp}
use Rattle.micro_ir.specs.declared.op.MicroOp.TheVariants.{Window}
use Rattle.micro_ir.specs.Replay.{replay, tally, IsInRange, AllInRange}
use Rattle.micro_ir.specs.Steps.{element}
use Rattle.micro_ir.specs.Measures.{counts}
use Rattle.micro_ir.specs.WorkRows.{active_row, scalar_row}
use Rattle.frame_laws.specs.Shapes.{Shape, Bounds, first_of}
use Rattle.frame_laws.specs.Realising.{Realised}
use Rattle.gen_perm.specs.Moves.{moved_number}

-- the bit of the window's row at element p, with this mask
abbrev pub window_bit : MicroOp → (mask : ℕ → Bool) → (p : ℕ) → Bool
window_bit (Window row width first from to masked) mask p = is_within from to masked mask (first + p)
window_bit _ mask p = false

-- What a list that moves elements makes of one element: the register gets what the operation leaves there, where the element is
-- active, and stays elsewhere. The other registers and the rows of active elements, of mask bits and of the scalar stay.
pub record Moves (op : MicroOp) (w to k col : ℕ) (s t : Slices) : Type 0 where
  pub active : ((j : ℕ) → j < w → element w k col s active_row j ≡ true)
      → number w (element w k col t to) ≡ low w (moved_number op (32 * s.columns) (bit_in s) (col * (32 / w) + k))
  pub idle : ((j : ℕ) → j < w → element w k col s active_row j ≡ false) → (j : ℕ) → j < w → element w k col t to j ≡ element w k col s to j
  pub kept : (r j : ℕ) → r ≤ scalar_row → r ≢ to → j < w → element w k col t r j ≡ element w k col s r j

-- it does so in each element, from any state of the slices
unfoldable pub MovesAll : (op : MicroOp) → (w to : ℕ) → List MicroOp → Type 0
MovesAll op w to ops =
    (s : Slices) (k col : ℕ) → k * w + w ≤ 32 → col < s.columns → Moves op w to k col s (replay ops s)

-- What the list of a window and the scalar makes of one element: the register gets the scalar's row where the window is, and stays
-- elsewhere. The other registers and the scalar's row stay.
pub record Puts (op : MicroOp) (w to k col : ℕ) (s t : Slices) : Type 0 where
  pub here : (j : ℕ) → j < w
      → element w k col t to j
      ≡ cond (window_bit op (bit_in s 0) (col * (32 / w) + k)) (element w k col s scalar_row j) (element w k col s to j)
  pub kept : (r j : ℕ) → r ≤ scalar_row → r ≢ to → r ≢ active_row → j < w → element w k col t r j ≡ element w k col s r j

unfoldable pub PutsAll : (op : MicroOp) → (w to : ℕ) → List MicroOp → Type 0
PutsAll op w to ops =
    (s : Slices) (k col : ℕ) → k * w + w ≤ 32 → col < s.columns → Puts op w to k col s (replay ops s)

-- The list realises a register of an instruction whose results are what the operation leaves at the elements of that register,
-- where they are active.
abbrev pub RealisesMove : (op : MicroOp) → (w to : ℕ) → List MicroOp → Type 0
RealisesMove op w to ops =
    (i : Shape) (b : Bounds) (g : ℕ) → i.width ≡ w → i.vd + g ≡ to
    → ((v : Registers) (p : ℕ) (c : Bool) → is_within b.from i.len i.masked (v 0) (first_of i g + p) ≡ true
    → i.result v (first_of i g + p) c ≡ moved_number op i.vlen v p)
    → Realised i b g ops

-- A commit of the scalar realises a register of an instruction whose results are its scalar.
abbrev pub RealisesScalar : (w to : ℕ) → List MicroOp → Type 0
RealisesScalar w to ops =
    (i : Shape) (b : Bounds) (g : ℕ) → i.width ≡ w → i.vd + g ≡ to → i.splat ≡ true → i.scalar_width ≡ i.width
    → ((v : Registers) (e : ℕ) (c : Bool) → i.result v e c ≡ i.scalar)
    → Realised i b g ops

-- An operation and a commit make two searches and two updates, in five operations. A chain that can run the operation can run all.
pub record MeasuredWith (op : MicroOp) (ops : List MicroOp) : Type 0 where
  pub cost : tally ops ≡ counts 2 2 0
  pub count : length ops ≡ 5
  pub range : (columns : ℕ) → IsInRange columns op → AllInRange columns ops
