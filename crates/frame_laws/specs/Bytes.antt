-- What an instruction makes of the registers as lists of bytes.
use Rattle.std.specs.Prelude.{◌≡◌, ℕ, ◌*◌, ◌/◌, ◌<◌, Bool, eqb, List}
use Rattle.std.specs.Int.{from_bool}
use Rattle.bit_rows.specs.Slices.{Slices}
use Rattle.cam_chain.specs.Views.{registers_of}
use Rattle.element_ops.specs.Elements.{element_of, mask_bit_of, bits_of, with_elements, with_mask}
use Rattle.micro_ir.specs.declared.op.MicroOp.{MicroOp}
use Rattle.micro_ir.specs.Replay.{replay}
use Rattle.frame_laws.specs.Shapes.{Shape, Bounds, Bounded}
use Rattle.frame_laws.specs.Programs.{program}
use Rattle.frame_laws.specs.Meaning.{outcome, place_in, after}
use Rattle.frame_laws.specs.Laws.{Legal, AllRealised, Holds}

-- the bytes of a register
abbrev pub size_of : Shape → ℕ
size_of i = i.vlen / 8

-- element e of the destination after the instruction, which computes these values
unfoldable pub element_of_after : Shape → (value : ℕ → ℕ) → List (List ℕ) → ℕ → ℕ
element_of_after i value v e = outcome i (value e) (element_of (size_of i) v i.vd i.width e) (place_in i (mask_bit_of v 0) e)

-- the registers after the instruction
abbrev pub registers_after : Shape → (value : ℕ → ℕ) → List (List ℕ) → List (List ℕ)
registers_after i value v = with_elements (size_of i) v i.vd i.registers i.width (element_of_after i value v)

-- The values are the shape's results for these registers, with each element's bit of v0, where an element may be computed.
abbrev pub AreResults : Shape → (value : ℕ → ℕ) → List (List ℕ) → Type 0
AreResults i value v = (e : ℕ) → e < i.len → i.result (bits_of v) e (mask_bit_of v 0 e) ≡ value e

-- The frame's law on lists of bytes, where elements are whole bytes.
abbrev pub BytesLaw : Type 0
BytesLaw =
    (i : Shape) (b : Bounds) (source : ℕ → ℕ → Bool) (body : ℕ → List MicroOp) (value : ℕ → ℕ) (s : Slices)
    → Legal i source s.columns → Bounded i b → AllRealised i b body
    → 0 < s.columns → 8 * (i.width / 8) ≡ i.width → AreResults i value (registers_of s)
    → registers_of (replay (program i b body) s) ≡ registers_after i value (registers_of s)

-- Slices that hold the registers of an instruction's meaning, bit by bit, hold the lists of bytes of its meaning.
abbrev pub HeldLaw : Type 0
HeldLaw =
    (i : Shape) (value : ℕ → ℕ) (s t : Slices)
    → t.columns ≡ s.columns → i.vlen ≡ 32 * s.columns → 0 < i.width → 0 < s.columns → 8 * (i.width / 8) ≡ i.width → AreResults i value (registers_of s)
    → Holds i.vlen t (after i (bits_of (registers_of s))) → registers_of t ≡ registers_after i value (registers_of s)

-- The same where the destination is a mask: an element is one bit, and one register takes all.
unfoldable pub bit_of_after : Shape → (value : ℕ → ℕ) → List (List ℕ) → ℕ → ℕ
bit_of_after i value v e = outcome i (value e) (from_bool (mask_bit_of v i.vd e)) (place_in i (mask_bit_of v 0) e)

abbrev pub mask_after : Shape → (value : ℕ → ℕ) → List (List ℕ) → List (List ℕ)
mask_after i value v = with_mask v i.vd (λ e. eqb (bit_of_after i value v e) 1)

-- The frame's law on lists of bytes, where an element is a bit and the group is one register.
abbrev pub BitsLaw : Type 0
BitsLaw =
    (i : Shape) (b : Bounds) (source : ℕ → ℕ → Bool) (body : ℕ → List MicroOp) (value : ℕ → ℕ) (s : Slices)
    → Legal i source s.columns → Bounded i b → AllRealised i b body
    → 0 < s.columns → i.width ≡ 1 → i.registers ≡ 1 → AreResults i value (registers_of s)
    → registers_of (replay (program i b body) s) ≡ mask_after i value (registers_of s)
