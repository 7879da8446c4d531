-- Programs leave the registers that their instructions mean.
use Rattle.std.specs.Prelude.{◌≡◌, ℕ, ◌*◌, ◌<◌, Bool, true, false, IsTrue, List}
use Rattle.bit_rows.specs.Slices.{Slices}
use Rattle.cam_chain.specs.Views.{registers_of}
use Rattle.element_ops.specs.Elements.{Registers}
use Rattle.micro_ir.specs.Replay.{replay}
use Rattle.rvv_decode.specs.declared.instruction.VInstr.{VInstr}
use Rattle.vtype_cfg.specs.declared.configuration.Cfg.{Cfg}
use Rattle.vtype_cfg.specs.Settings.{is_vill_or_supported}
use Rattle.vtype_cfg.specs.Classes.{class_of}
use Rattle.vtype_cfg.specs.Legality.{is_legal}
use Rattle.rvv_meaning.specs.Elementwise.{Elementwise, makes_mask, registers_after}
use Rattle.rvv_meaning.specs.Operations.{Operation, reads_mask, on_elements}
use Rattle.frame_laws.specs.Bytes.{mask_after}
use Rattle.frame_laws.specs.Bytes as frame
use Rattle.micro_ir.specs.declared.op.MicroOp.{MicroOp}
use Rattle.frame_laws.specs.Classes.Plain.{AllCompute}
use Rattle.frame_meaning.specs.declared.Order.{Order}
use Rattle.frame_meaning.specs.declared.Order.TheVariants.{Straight, Reversed, Second, Exchanged, Widening, WideSource, Half, Quarter}
use Rattle.frame_meaning.specs.Shapes.{shape_of, width_in, count_in, class_in, signs_of, operands_in, value_in, program_in}

-- What the frame makes of the registers is what the instruction means.
abbrev pub MeaningLaw : Type 0
MeaningLaw =
    (c : Cfg) (i : Elementwise) (reads splat : Bool) (x w : ℕ) (result : Registers → ℕ → Bool → ℕ) (v : List (List ℕ))
    → makes_mask i ≡ false → frame.registers_after (shape_of c i reads splat x w result) (i.value v) v ≡ registers_after c i v

abbrev pub MaskMeaningLaw : Type 0
MaskMeaningLaw =
    (c : Cfg) (i : Elementwise) (reads splat : Bool) (x w : ℕ) (result : Registers → ℕ → Bool → ℕ) (v : List (List ℕ))
    → makes_mask i ≡ true → mask_after (shape_of c i reads splat x w result) (i.value v) v ≡ registers_after c i v

-- an instruction that can run on the slices
pub record Runs (i : VInstr) (c : Cfg) (s : Slices) : Type 0 where
  pub setting : IsTrue (is_vill_or_supported c.vtype)
  pub legal : is_legal i c.vtype c.vstart ≡ true
  pub long : c.vlen ≡ 32 * s.columns
  pub some : 0 < s.columns
  pub immediate : i.vs1 < 32

-- the value does not depend on the first operand, or on the second
abbrev pub IgnoresFirst : Operation → Type 0
IgnoresFirst o = (w mode x y b d : ℕ) (m : Bool) → o.value w mode x b d m ≡ o.value w mode y b d m

abbrev pub IgnoresSecond : Operation → Type 0
IgnoresSecond o = (w mode a x y d : ℕ) (m : Bool) → o.value w mode a x d m ≡ o.value w mode a y d m

-- the value depends on the operands alone that the list takes
abbrev pub Ignores : Order → Operation → Type 0
Ignores Straight o = Unit {0}
Ignores Reversed o = Unit {0}
Ignores Second o = IgnoresFirst o
Ignores Exchanged o = Unit {0}
Ignores Widening o = Unit {0}
Ignores WideSource o = Unit {0}
Ignores Half o = IgnoresSecond o
Ignores Quarter o = IgnoresSecond o

-- The program of an instruction with this operation, whose operands are groups of elements at the same place, leaves the
-- registers that it means, from lists that realise its value.
abbrev pub ElementsMeaningLaw : Type 0
ElementsMeaningLaw =
    (order : Order) (o : Operation) (i : VInstr) (c : Cfg) (x : ℕ) (body : ℕ → List MicroOp) (s : Slices)
    → Ignores order o → Runs i c s → class_of i.op ≡ class_in order
    → AllCompute (width_in order c.vtype.sew) i.vd (count_in order c.vtype) (reads_mask i o) (operands_in order (signs_of o) i c.vtype.sew) (value_in order i c o) body
    → registers_of (replay (program_in order i c x o body) s) ≡ registers_after c (on_elements i c x o) (registers_of s)
