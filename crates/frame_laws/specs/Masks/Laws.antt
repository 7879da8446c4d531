-- The laws of the frame of instructions that make a mask.
use Rattle.std.specs.Prelude.{◌≡◌, ℕ, ◌+◌, ◌*◌, ◌/◌, ◌<◌, ◌≤◌, Bool, true, List}
use Rattle.bit_rows.specs.Slices.{Slices}
use Rattle.cam_chain.specs.Views.{registers_of}
use Rattle.element_ops.specs.Elements.{Registers}
use Rattle.micro_ir.specs.declared.op.MicroOp.{MicroOp}
use Rattle.micro_ir.specs.Replay.{replay}
use Rattle.frame_laws.specs.Shapes.{Shape, Bounds, Bounded, first_of}
use Rattle.frame_laws.specs.Meaning.{after}
use Rattle.frame_laws.specs.Laws.{SameAt, Holds}
use Rattle.frame_laws.specs.Bytes.{AreResults, mask_after}
use Rattle.frame_laws.specs.Masks.Programs.{mask_of, mask_program}
use Rattle.frame_laws.specs.Masks.Telling.{Told}

-- What the frame asks of an instruction by itself, on slices of so many columns. The destination may be v0, also where the
-- instruction is masked or the mask is an operand: each element's mask bit is the bit that it writes, which no element of an
-- earlier register has written.
pub record MaskFramed (i : Shape) (columns : ℕ) : Type 0 where
  pub width : 0 < i.width
  pub lanes : 32 / i.width * i.width ≡ 32
  pub vlen : i.vlen ≡ 32 * columns
  -- the scalar is splatted over whole elements
  pub scalar_width : 0 < i.scalar_width
  pub scalar_lanes : 32 / i.scalar_width * i.scalar_width ≡ 32
  -- each element of the groups has a mask bit
  pub numbers : i.registers ≤ i.width
  pub some : 0 < i.registers
  pub room : i.vd < 32
  -- the instruction computes no element past its groups
  pub length : i.len ≤ i.registers * (i.vlen / i.width)

-- And what it asks of the registers that the elements of register g are computed from, which `source g` holds.
pub record MaskLegal (i : Shape) (source : ℕ → ℕ → Bool) (columns : ℕ) : Type 0 where
  pub framed : MaskFramed i columns
  -- the destination may be the first register of a group, which is read before it is written, and no other
  pub sources : (g r : ℕ) → g < i.registers → source g r ≡ true → (r < 32) × (r ≡ i.vd → g ≡ 0)
  -- the results of elements that may be computed depend on them alone
  pub reads_only : (g : ℕ) (u v : Registers) (p : ℕ) (c : Bool) → g < i.registers → p < i.vlen / i.width → first_of i g + p < i.len → SameAt (source g) i.vlen u v
      → i.result u (first_of i g + p) c ≡ i.result v (first_of i g + p) c

-- the list of each register tells its truths
abbrev pub AllTold : Shape → Bounds → (body : ℕ → List MicroOp) → Type 0
AllTold i b body = (g : ℕ) → g < i.registers → Told i b g (body g)

-- The program of a legal instruction whose lists tell the truths of its elements leaves the registers of its meaning, from
-- any slices that hold the registers v.
abbrev pub MaskFrameLaw : Type 0
MaskFrameLaw =
    (i : Shape) (b : Bounds) (source : ℕ → ℕ → Bool) (body : ℕ → List MicroOp) (v : Registers) (s : Slices)
    → MaskLegal i source s.columns → Bounded (mask_of i) b → AllTold i b body → Holds i.vlen s v
    → Holds i.vlen (replay (mask_program i b body) s) (after (mask_of i) v)

-- The same on lists of bytes.
abbrev pub MaskLaw : Type 0
MaskLaw =
    (i : Shape) (b : Bounds) (source : ℕ → ℕ → Bool) (body : ℕ → List MicroOp) (value : ℕ → ℕ) (s : Slices)
    → MaskLegal i source s.columns → Bounded (mask_of i) b → AllTold i b body
    → 0 < s.columns → AreResults i value (registers_of s)
    → registers_of (replay (mask_program i b body) s) ≡ mask_after (mask_of i) value (registers_of s)
