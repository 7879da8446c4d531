-- The core after the program of an instruction.
use Rattle.std.proofs.Common.{◌≡◌, ℕ, ◌*◌, Bool, true, false, cond, ◌||◌, List, Some, refl, sym, ◌∙◌, ap}
use Rattle.bit_laws.specs.Numbers.{low}
use Rattle.cam_chain.specs.ChainValue.{ChainValue, slices_of}
use Rattle.cam_chain.specs.Views.{registers_of}
use Rattle.micro_ir.specs.declared.control.Control.{Control}
use Rattle.micro_ir.specs.declared.op.MicroOp.{MicroOp}
use Rattle.micro_ir.specs.Replay.{replay, clips}
use Rattle.frame_meaning.specs.Realising.{RealisesInstruction}
use Rattle.rvv_decode.specs.declared.instruction.VInstr.{VInstr}
use Rattle.rvv_meaning.specs.Elementwise.{Elementwise, clips as clips_elements, registers_after}
use Rattle.rvv_meaning.specs.Scalar.Registers.{written}
use Rattle.rvv_meaning.specs.States.{Core, cfg_at, executed_vector, advanced}
use Rattle.rvv_meaning.specs.Vectors.{is_computed, left_of, scalar_operand, elements_effect, number_effect}
use Rattle.rvv_meaning.specs.Whole.{Left, elements, number, makes_number}
use Rattle.machine.specs.Moments.{slices_by, control_by, with_number}
use Rattle.machine.proofs.Configurations.{left-is}
use Rattle.machine.proofs.Engine.{elements-registers, elements-clip, number-registers, number-is, number-clip}
use Rattle.machine.proofs.Leaving.{Kind, computed-left}

-- what the machine makes of the core: the registers that the slices hold, the number, and the flag
abbrev pub core_programmed : VInstr → Core → (vectors : List (List ℕ)) → Control → Core
core_programmed i c vectors k =
    advanced (record c {
      vectors = vectors;
      regs = with_number (makes_number i.op) i.vd k.num c.regs;
      csrs = record c.csrs { vstart = 0; vxsat = c.csrs.vxsat || k.clip };
    })

module _ (i : VInstr) (c : Core) (old : ChainValue) (ops : List MicroOp) (held : c.vectors ≡ registers_of (slices_of old))
    (realises : RealisesInstruction i (cfg_at c) (scalar_operand i c.regs) ops) (long : c.csrs.vlen ≡ 32 * old.columns) where
  -- what the meaning leaves of the registers in the slices
  there : (l : Left) → left_of i (cfg_at c) (scalar_operand i c.regs) c.vectors ≡ Some l → left_of i (cfg_at c) (scalar_operand i c.regs) (registers_of (slices_of old)) ≡ Some l
  there l is = rw held at is

  abbrev control_left : Control
  control_left = record { num = (replay ops (record (slices_of old) { num = 0 })).num; clip = clips ops (record (slices_of old) { num = 0 }) }

  abbrev vectors_left : List (List ℕ)
  vectors_left = registers_of (slices_by (Some ops) (slices_of old))

  elements-core : (e : Elementwise) → left_of i (cfg_at c) (scalar_operand i c.regs) c.vectors ≡ Some (elements e) → makes_number i.op ≡ false
      → core_programmed i c vectors_left control_left ≡ executed_vector i c
  unfolding elements_effect
  elements-core e is apart =
      let registers : vectors_left ≡ registers_after (cfg_at c) e c.vectors = elements-registers old i (cfg_at c) (scalar_operand i c.regs) ops realises long e (there (elements e) is) ∙ rw held refl in
      let clip : control_left.clip ≡ clips_elements (cfg_at c) e c.vectors = elements-clip old i (cfg_at c) (scalar_operand i c.regs) ops realises long e (there (elements e) is) ∙ rw held refl in
      rw (apart, registers, clip) (sym (left-is i c (elements e) is))

  number-core : (n : ℕ) → left_of i (cfg_at c) (scalar_operand i c.regs) c.vectors ≡ Some (number n) → makes_number i.op ≡ true
      → core_programmed i c vectors_left control_left ≡ executed_vector i c
  unfolding number_effect
  number-core n is makes =
      let registers : vectors_left ≡ c.vectors = number-registers old i (cfg_at c) (scalar_operand i c.regs) ops realises long n (there (number n) is) ∙ sym held in
      let num : low 32 control_left.num ≡ n = number-is old i (cfg_at c) (scalar_operand i c.regs) ops realises long n (there (number n) is) in
      let clip : control_left.clip ≡ false = number-clip old i (cfg_at c) (scalar_operand i c.regs) ops realises long n (there (number n) is) in
      rw (makes, registers, num, clip) (sym (left-is i c (number n) is))

  by-kind : (makes : Bool) (l : Left) → makes_number i.op ≡ makes → left_of i (cfg_at c) (scalar_operand i c.regs) c.vectors ≡ Some l → Kind makes l
      → core_programmed i c vectors_left control_left ≡ executed_vector i c
  by-kind true l makes is kind = number-core kind.0 (is ∙ ap Some kind.1) makes
  by-kind false l makes is kind = elements-core kind.0 (is ∙ ap Some kind.1) makes

  pub program-core : is_computed i.op ≡ true → core_programmed i c vectors_left control_left ≡ executed_vector i c
  program-core computed =
      let it = computed-left i (cfg_at c) (scalar_operand i c.regs) c.vectors computed in
      by-kind (makes_number i.op) it.left refl it.is it.kind
