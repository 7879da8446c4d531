-- The class of instructions that make a mask: each bit of it is a truth of the elements at the same place of two operands,
-- which are as wide.
use Rattle.std.specs.Prelude.{◌≡◌, ℕ, ◌+◌, ◌*◌, ◌/◌, ◌<◌, ◌≤◌, Bool, true, ◌⊎◌, List}
use Rattle.std.specs.Int.{from_bool}
use Rattle.bit_rows.specs.Slices.{Slices}
use Rattle.cam_chain.specs.Views.{registers_of}
use Rattle.element_ops.specs.Elements.{Registers, mask_bit_of}
use Rattle.micro_ir.specs.declared.op.MicroOp.{MicroOp}
use Rattle.micro_ir.specs.Replay.{replay}
use Rattle.frame_laws.specs.Shapes.{Shape, Bounds, Bounded}
use Rattle.micro_ir.specs.Kinds.{Tells}
use Rattle.frame_laws.specs.Bytes.{size_of, mask_after}
use Rattle.frame_laws.specs.Masks.Programs.{mask_of, mask_program}
use Rattle.frame_laws.specs.Masks.Laws.{MaskFramed}
use Rattle.frame_laws.specs.Classes.Operands.{Operand, group, scalar, narrow, operand_number, operand_of, row_of}

-- the two operands
pub record Pair : Type 0 where
  pub a : Operand
  pub b : Operand

-- the truth of an element, from the operands' numbers and the mask bit
abbrev pub Truth : Type 0
Truth = (a b : ℕ) → Bool → Bool

-- the result of an element, from registers that are bits
abbrev pub mask_result : (vlen w x : ℕ) → Pair → Truth → Registers → ℕ → Bool → ℕ
mask_result vlen w x with truth v e m = from_bool (truth (operand_number with.a vlen w x v e) (operand_number with.b vlen w x v e) m)

-- and from registers that are lists of bytes
abbrev pub mask_value : Shape → Pair → Truth → List (List ℕ) → ℕ → ℕ
mask_value i with truth v e =
    from_bool (truth (operand_of with.a (size_of i) i.width i.scalar v e) (operand_of with.b (size_of i) i.width i.scalar v e) (mask_bit_of v 0 e))

-- The operand can be read while the mask is written: the destination is the first of its registers, or none of them; or the
-- scalar stands in its row.
abbrev pub IsMaskReadable : Shape → Operand → Type 0
IsMaskReadable i (group r) = (r + i.registers ≤ 32) × ((i.vd ≡ r) ⊎ ((i.vd < r) ⊎ (r + i.registers ≤ i.vd)))
IsMaskReadable i scalar = (i.splat ≡ true) × (i.scalar_width ≡ i.width)
IsMaskReadable i (narrow signed by n r row) = ⊥

-- What an instruction that makes a mask from these operands needs, on slices of so many columns.
pub record IsCompared (i : Shape) (with : Pair) (truth : Truth) (columns : ℕ) : Type 0 where
  pub framed : MaskFramed i columns
  pub result : (v : Registers) (e : ℕ) (m : Bool) → i.result v e m ≡ mask_result i.vlen i.width i.scalar with truth v e m
  pub a : IsMaskReadable i with.a
  pub b : IsMaskReadable i with.b

-- The list of each register of the operands' groups tells the truth, from the rows of the operands.
abbrev pub AllTell : (width registers : ℕ) (reads : Bool) → Pair → Truth → (body : ℕ → List MicroOp) → Type 0
AllTell width registers reads with truth body =
    (g : ℕ) → g < registers → Tells width reads (λ n c. truth (n (row_of with.a g)) (n (row_of with.b g)) c) (body g)

-- The program of an instruction that makes a mask, whose lists tell its truth, leaves the registers of its meaning, as lists of
-- bytes. Elements of the operands are whole bytes.
abbrev pub ComparedBytesLaw : Type 0
ComparedBytesLaw =
    (i : Shape) (b : Bounds) (with : Pair) (truth : Truth) (body : ℕ → List MicroOp) (s : Slices)
    → IsCompared i with truth s.columns → Bounded (mask_of i) b → AllTell i.width i.registers i.reads with truth body → 0 < s.columns → 8 * (i.width / 8) ≡ i.width
    → registers_of (replay (mask_program i b body) s) ≡ mask_after (mask_of i) (mask_value i with truth (registers_of s)) (registers_of s)
