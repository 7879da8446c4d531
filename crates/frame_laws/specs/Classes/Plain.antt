-- The class of instructions each element of which is computed from the elements at the same place of up to three operands.
-- These are as wide, or narrower and laid out before they are used.
use Rattle.std.specs.Prelude.{◌≡◌, ℕ, ◌+◌, ◌*◌, ◌/◌, ◌<◌, Bool, false, ◌&&◌, List, ◌++◌}
use Rattle.bit_rows.specs.Slices.{Slices}
use Rattle.cam_chain.specs.Views.{registers_of}
use Rattle.element_ops.specs.Elements.{Registers, element_in, element_of, mask_bit_of}
use Rattle.element_ops.specs.Places.{is_active}
use Rattle.fold_laws.specs.Folds.{any}
use Rattle.row_views.specs.Clips.{ClipsWhere}
use Rattle.micro_ir.specs.declared.op.MicroOp.{MicroOp}
use Rattle.micro_ir.specs.Replay.{replay, clips}
use Rattle.frame_laws.specs.Shapes.{Shape, Bounds, Bounded}
use Rattle.frame_laws.specs.Programs.{program}
use Rattle.frame_laws.specs.Meaning.{place_in, after}
use Rattle.micro_ir.specs.Kinds.{Realises}
use Rattle.frame_laws.specs.Laws.{Framed, Holds}
use Rattle.frame_laws.specs.Bytes.{size_of, registers_after}
use Rattle.frame_laws.specs.Classes.Operands.{Operand, group, operand_number, operand_of, row_of, laid_out, is_laid_out_in, IsReadable}

-- the operands: a, b and, where a kind has a third, the addend, which is the group from a register on
pub record Operands : Type 0 where
  pub a : Operand
  pub b : Operand
  pub addend : ℕ

-- the list of register g with what lays its operands out: first a, then b
abbrev pub with_operands : (w : ℕ) → Operands → (body : ℕ → List MicroOp) → ℕ → List MicroOp
with_operands w with body g = laid_out with.a w g ++ (laid_out with.b w g ++ body g)

-- the value of an element, from the operands' numbers and the mask bit
abbrev pub Value : Type 0
Value = (a b addend : ℕ) → Bool → ℕ

-- the result of an element, from registers that are bits
abbrev pub plain_result : (vlen w x : ℕ) → Operands → Value → Registers → ℕ → Bool → ℕ
plain_result vlen w x with value v e m = value (operand_number with.a vlen w x v e) (operand_number with.b vlen w x v e) (element_in vlen v with.addend w e) m

-- and from registers that are lists of bytes
abbrev pub plain_value : Shape → Operands → Value → List (List ℕ) → ℕ → ℕ
plain_value i with value v e =
    value (operand_of with.a (size_of i) i.width i.scalar v e) (operand_of with.b (size_of i) i.width i.scalar v e) (element_of (size_of i) v with.addend i.width e)
    (mask_bit_of v 0 e)

-- What a plain instruction with these operands needs, on slices of so many columns.
pub record IsPlain (i : Shape) (with : Operands) (value : Value) (columns : ℕ) : Type 0 where
  pub framed : Framed i columns
  pub result : (v : Registers) (e : ℕ) (m : Bool) → i.result v e m ≡ plain_result i.vlen i.width i.scalar with value v e m
  pub a : IsReadable i with.a
  pub b : IsReadable i with.b
  pub addend : IsReadable i (group with.addend)
  -- laying b out leaves a
  pub apart : (g : ℕ) → g < i.registers → is_laid_out_in (row_of with.a g) with.b ≡ false

-- The list of each register of the destination realises the value, from the rows of the operands.
abbrev pub AllCompute : (width vd registers : ℕ) (reads : Bool) → Operands → Value → (body : ℕ → List MicroOp) → Type 0
AllCompute width vd registers reads with value body =
    (g : ℕ) → g < registers
    → Realises width (vd + g) reads (λ n m. value (n (row_of with.a g)) (n (row_of with.b g)) (n (with.addend + g)) m) (body g)

-- The program of a plain instruction whose lists realise its value leaves the registers of its meaning.
abbrev pub PlainLaw : Type 0
PlainLaw =
    (i : Shape) (b : Bounds) (with : Operands) (value : Value) (body : ℕ → List MicroOp) (v : Registers) (s : Slices)
    → IsPlain i with value s.columns → Bounded i b → AllCompute i.width i.vd i.registers i.reads with value body → Holds i.vlen s v
    → Holds i.vlen (replay (program i b (with_operands i.width with body)) s) (after i v)

-- The same on lists of bytes, where elements are whole bytes.
abbrev pub PlainBytesLaw : Type 0
PlainBytesLaw =
    (i : Shape) (b : Bounds) (with : Operands) (value : Value) (body : ℕ → List MicroOp) (s : Slices)
    → IsPlain i with value s.columns → Bounded i b → AllCompute i.width i.vd i.registers i.reads with value body → 0 < s.columns → 8 * (i.width / 8) ≡ i.width
    → registers_of (replay (program i b (with_operands i.width with body)) s) ≡ registers_after i (plain_value i with value (registers_of s)) (registers_of s)

-- ---- clips

-- whether the result of an element is clipped, from the operands' numbers
abbrev pub ClipTest : Type 0
ClipTest = (a b addend : ℕ) → Bool

-- from registers that are bits, and from registers that are lists of bytes
abbrev pub plain_clipped : (vlen w x : ℕ) → Operands → ClipTest → Registers → ℕ → Bool
plain_clipped vlen w x with test v e = test (operand_number with.a vlen w x v e) (operand_number with.b vlen w x v e) (element_in vlen v with.addend w e)

abbrev pub plain_clip : Shape → Operands → ClipTest → List (List ℕ) → ℕ → Bool
plain_clip i with test v e =
    test (operand_of with.a (size_of i) i.width i.scalar v e) (operand_of with.b (size_of i) i.width i.scalar v e) (element_of (size_of i) v with.addend i.width e)

-- The list of each register of the destination sets the flag where the result of an active element is clipped.
abbrev pub AllClip : (width registers : ℕ) → Operands → ClipTest → (body : ℕ → List MicroOp) → Type 0
AllClip width registers with test body =
    (g : ℕ) → g < registers → ClipsWhere width (λ n. test (n (row_of with.a g)) (n (row_of with.b g)) (n (with.addend + g))) (body g)

-- The program of a plain instruction whose lists do so sets the flag exactly where an active element is clipped, as the
-- registers before it tell as lists of bytes.
abbrev pub PlainClipLaw : Type 0
PlainClipLaw =
    (i : Shape) (b : Bounds) (with : Operands) (value : Value) (test : ClipTest) (body : ℕ → List MicroOp) (s : Slices)
    → IsPlain i with value s.columns → Bounded i b → AllCompute i.width i.vd i.registers i.reads with value body → AllClip i.width i.registers with test body
    → 0 < s.columns → 8 * (i.width / 8) ≡ i.width
    → clips (program i b (with_operands i.width with body)) s
    ≡ any (i.registers * (i.vlen / i.width)) (λ e. is_active (place_in i (mask_bit_of (registers_of s) 0) e) && plain_clip i with test (registers_of s) e)
