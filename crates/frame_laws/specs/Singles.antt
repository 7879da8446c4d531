-- Instructions that put a scalar into one element, after the registers of a group: slides by one place.
use Rattle.std.specs.Prelude.{◌≡◌, ℕ, suc, ◌*◌, ◌/◌, ◌<◌, Bool, true, false, cond, eqb, max, min, List, ◌∷◌, ◌++◌}
use Rattle.bit_rows.specs.Slices.{Slices}
use Rattle.cam_chain.specs.Views.{registers_of}
use Rattle.element_ops.specs.Elements.{Registers}
use Rattle.micro_ir.specs.declared.op.MicroOp.{MicroOp}
use Rattle.micro_ir.specs.Replay.{replay}
use Rattle.frame_laws.specs.Shapes.{Shape, Bounds, Bounded}
use Rattle.frame_laws.specs.Programs.{active_window, program}
use Rattle.frame_laws.specs.Meaning.{after}
use Rattle.frame_laws.specs.Realising.{Realised}
use Rattle.frame_laws.specs.Laws.{Legal, AllRealised, Holds}
use Rattle.frame_laws.specs.Bytes.{AreResults, registers_after}

-- the instruction, whose element q is the scalar
abbrev pub with_single : Shape → (q : ℕ) → Shape
with_single i q = record i { result = λ v e c. cond (eqb e q) i.scalar (i.result v e c) }

-- Element q alone, where the instruction has it. Nothing is filled, since the group was before.
abbrev pub single_shape : Shape → (q : ℕ) → Shape
single_shape i q = record i { ones = false; tail = false; from = q; len = min (suc q) i.len; result = λ v e c. i.scalar }

-- the register that it lies in
abbrev pub single_register : Shape → (q : ℕ) → ℕ
single_register i q = q / (i.vlen / i.width)

-- the bounds of its window, which begins at this number
abbrev pub single_bounds : Shape → (q start : ℕ) → Bounds
single_bounds i q start = record { from = start; until = min (suc q) i.len }

-- the window, and the list that puts the scalar there
abbrev pub single_operations : Shape → (q start : ℕ) → (list : List MicroOp) → List MicroOp
single_operations i q start list = active_window (single_shape i q) (single_bounds i q start) (single_register i q) ∷ list

-- What such an instruction needs besides: it takes the scalar and no mask as its operand, its elements run from vstart on, the
-- register is one of the group, and the window begins at the element, or at vstart where that is later.
pub record HasSingle (i : Shape) (q start : ℕ) : Type 0 where
  pub from : i.from ≡ i.vstart
  pub reads : i.reads ≡ false
  pub splat : i.splat ≡ true
  pub register : single_register i q < i.registers
  pub begins : 0 < i.len → start ≡ max i.vstart q

-- The program with these operations behind it leaves the registers of the whole instruction.
abbrev pub SingleLaw : Type 0
SingleLaw =
    (i : Shape) (b : Bounds) (source : ℕ → ℕ → Bool) (body : ℕ → List MicroOp) (q start : ℕ) (list : List MicroOp) (v : Registers) (s : Slices)
    → Legal i source s.columns → Bounded i b → AllRealised i b body → HasSingle i q start
    → Realised (single_shape i q) (single_bounds i q start) (single_register i q) list → Holds i.vlen s v
    → Holds i.vlen (replay (program i b body ++ single_operations i q start list) s) (after (with_single i q) v)

-- The same on lists of bytes, where elements are whole bytes.
abbrev pub SingleBytesLaw : Type 0
SingleBytesLaw =
    (i : Shape) (b : Bounds) (source : ℕ → ℕ → Bool) (body : ℕ → List MicroOp) (q start : ℕ) (list : List MicroOp) (value : ℕ → ℕ) (s : Slices)
    → Legal i source s.columns → Bounded i b → AllRealised i b body → HasSingle i q start
    → Realised (single_shape i q) (single_bounds i q start) (single_register i q) list
    → 0 < s.columns → 8 * (i.width / 8) ≡ i.width → AreResults (with_single i q) value (registers_of s)
    → registers_of (replay (program i b body ++ single_operations i q start list) s) ≡ registers_after (with_single i q) value (registers_of s)
