-- The laws of the frame.
use Rattle.std.specs.Prelude.{◌≡◌, ℕ, ◌+◌, ◌*◌, ◌/◌, ◌<◌, ◌≤◌, Bool, true, ◌||◌, ◌⊎◌, List}
use Rattle.bit_rows.specs.Slices.{Slices}
use Rattle.steer_net.specs.Network.{bit_in}
use Rattle.element_ops.specs.Elements.{Registers}
use Rattle.micro_ir.specs.declared.op.MicroOp.{MicroOp}
use Rattle.micro_ir.specs.Replay.{replay}
use Rattle.frame_laws.specs.Shapes.{Shape, Bounds, Bounded, first_of}
use Rattle.frame_laws.specs.Programs.{first_registers, program}
use Rattle.frame_laws.specs.Meaning.{written, after}
use Rattle.frame_laws.specs.Realising.{Splatted, Realised}

-- the registers in the set hold the same bits
abbrev pub SameAt : (rows : ℕ → Bool) (vlen : ℕ) → Registers → Registers → Type 0
SameAt rows vlen u v = (r at : ℕ) → rows r ≡ true → at < vlen → u r at ≡ v r at

-- What the frame asks of an instruction by itself, on slices of so many columns.
pub record Framed (i : Shape) (columns : ℕ) : Type 0 where
  pub width : 0 < i.width
  pub lanes : 32 / i.width * i.width ≡ 32
  pub vlen : i.vlen ≡ 32 * columns
  -- each element of the group has a mask bit
  pub numbers : i.registers ≤ i.width
  pub room : i.vd + i.registers ≤ 32
  -- the scalar is splatted over whole elements
  pub scalar_width : 0 < i.scalar_width
  pub scalar_lanes : 32 / i.scalar_width * i.scalar_width ≡ 32
  -- the mask is not overwritten while it is used
  pub not_mask : (i.masked || i.reads) ≡ true → 0 < i.vd

-- And what it asks of the registers that the elements of register g are computed from, which `source g` holds.
pub record Legal (i : Shape) (source : ℕ → ℕ → Bool) (columns : ℕ) : Type 0 where
  pub framed : Framed i columns
  -- none is overwritten before it is read
  pub sources : (g r : ℕ) → g < i.registers → source g r ≡ true → (r < 32) × ((r < i.vd) ⊎ (i.vd + g ≤ r))
  -- the results of elements that may be computed depend on them alone
  pub reads_only : (g : ℕ) (u v : Registers) (p : ℕ) (c : Bool) → g < i.registers → p < i.vlen / i.width → first_of i g + p < i.len → SameAt (source g) i.vlen u v
      → i.result u (first_of i g + p) c ≡ i.result v (first_of i g + p) c

-- the list of each register realises it
abbrev pub AllRealised : Shape → Bounds → (body : ℕ → List MicroOp) → Type 0
AllRealised i b body = (g : ℕ) → g < i.registers → Realised i b g (body g)

-- the slices hold these registers
abbrev pub Holds : (vlen : ℕ) → Slices → Registers → Type 0
Holds vlen s v = (r at : ℕ) → r < 32 → at < vlen → bit_in s r at ≡ v r at

-- The frame: the program of a legal instruction whose lists realise its registers leaves the registers of its meaning,
-- from any slices that hold the registers v.
abbrev pub FrameLaw : Type 0
FrameLaw =
    (i : Shape) (b : Bounds) (source : ℕ → ℕ → Bool) (body : ℕ → List MicroOp) (v : Registers) (s : Slices)
    → Legal i source s.columns → Bounded i b → AllRealised i b body → Holds i.vlen s v
    → Holds i.vlen (replay (program i b body) s) (after i v)

-- The operations on the first registers of the group write these, and keep the other registers and the scalar, from any
-- slices that hold the registers v and, where the instruction has one, the scalar.
abbrev pub GroupLaw : Type 0
GroupLaw =
    (i : Shape) (b : Bounds) (source : ℕ → ℕ → Bool) (body : ℕ → List MicroOp) (v : Registers) (s : Slices) (g : ℕ)
    → Legal i source s.columns → Bounded i b → AllRealised i b body → Holds i.vlen s v → Splatted i s → g ≤ i.registers
    → Holds i.vlen (replay (first_registers i b body g) s) (written i g v) × Splatted i (replay (first_registers i b body g) s)
