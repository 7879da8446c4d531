-- When a program realises an instruction.
use Rattle.std.specs.Prelude.{◌≡◌, ℕ, ◌*◌, Bool, false, List, Option, Some, None}
use Rattle.bit_laws.specs.Numbers.{low}
use Rattle.bit_rows.specs.Slices.{Slices}
use Rattle.cam_chain.specs.Views.{registers_of}
use Rattle.micro_ir.specs.declared.op.MicroOp.{MicroOp}
use Rattle.micro_ir.specs.Replay.{replay, clips}
use Rattle.rvv_decode.specs.declared.instruction.VInstr.{VInstr}
use Rattle.vtype_cfg.specs.declared.configuration.Cfg.{Cfg}
use Rattle.rvv_meaning.specs.Elementwise.{registers_after, clips as clips_elements}
use Rattle.rvv_meaning.specs.Vectors.{left_of}
use Rattle.rvv_meaning.specs.Whole.{Left, elements, number}

-- What a list leaves in slices that held these registers: the registers that the instruction means and whether it clips an
-- element; or the number that it means for a scalar register, with the registers as they were.
abbrev pub Leaves : Cfg → List (List ℕ) → Left → (after : Slices) → (clipped : Bool) → Type 0
Leaves c v (elements e) after clipped = (registers_of after ≡ registers_after c e v) × (clipped ≡ clips_elements c e v)
Leaves c v (number n) after clipped = (registers_of after ≡ v) × (low 32 after.num ≡ n) × (clipped ≡ false)

abbrev pub LeavesMeaning : Cfg → List (List ℕ) → Option Left → (after : Slices) → (clipped : Bool) → Type 0
LeavesMeaning c v None after clipped = ⊥
LeavesMeaning c v (Some left) after clipped = Leaves c v left after clipped

-- The list realises the instruction: from any slices whose control number is 0, its replay leaves what the instruction means
-- for the registers before.
unfoldable pub RealisesInstruction : VInstr → Cfg → (scalar : ℕ) → List MicroOp → Type 0
RealisesInstruction i c x ops =
    (s : Slices) → s.num ≡ 0 → c.vlen ≡ 32 * s.columns → LeavesMeaning c (registers_of s) (left_of i c x (registers_of s)) (replay ops s) (clips ops s)
