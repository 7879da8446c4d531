-- What an instruction that calls leaves: registers, control registers and memory as they were.
use Rattle.std.proofs.Common.{◌≡◌, ℕ, Bool, true, false, cond, List, Option, Some, None, refl}
use Rattle.guest_mem.specs.Pages.{Memory}
use Rattle.rv32_decode.specs.declared.instruction.Instr.{Instr}
use Rattle.rv32_decode.specs.declared.operations.Op.{Op}
use Rattle.rv32_decode.specs.declared.operations.Op.TheVariants.{Jal, Jalr, Beq, Bne, Blt, Bge, Bltu, Bgeu, Lb, Lh, Lw, Lbu, Lhu, Sb, Sh, Sw, Fence, FenceI, Ecall, Ebreak, Csrrw, Csrrs, Csrrc, Csrrwi, Csrrsi, Csrrci}
use Rattle.rvv_meaning.specs.declared.Csrs.{Csrs}
use Rattle.rvv_meaning.specs.declared.Flow.{Flow}
use Rattle.rvv_meaning.specs.declared.Flow.TheVariants.{Next, Jump, Call}
use Rattle.rvv_meaning.specs.Scalar.{Effect, effect, value_effect, target_effect, jump_effect, branch_effect, load_unless, load_effect, store_unless, store_effect, exchange_effect, change_effect, csr_effect, effect_of, executed}
use Rattle.rvv_meaning.specs.Scalar.Transfers.{is_aligned}

module _ (i : Instr) (pc : ℕ) (regs : List ℕ) (csrs : Csrs) (mem : Memory) where
  -- an effect that calls changes nothing
  pub record Rests (e : Effect) : Type 0 where
    pub regs_rest : e.flow ≡ Call → e.regs ≡ regs
    pub csrs_rest : e.flow ≡ Call → e.csrs ≡ csrs
    pub mem_rests : e.flow ≡ Call → e.mem ≡ mem

  same : (flow : Flow) → Rests (effect flow regs csrs mem)
  unfolding effect
  same flow = record { regs_rest = λ _. refl; csrs_rest = λ _. refl; mem_rests = λ _. refl }

  moved : (after : List ℕ) (now : Csrs) (left : Memory) → Rests (effect Next after now left)
  unfolding effect
  moved after now left = record { regs_rest = λ is. cc; csrs_rest = λ is. cc; mem_rests = λ is. cc }

  jumped : (to : ℕ) (after : List ℕ) → Rests (effect (Jump to) after csrs mem)
  unfolding effect
  jumped to after = record { regs_rest = λ is. cc; csrs_rest = λ _. refl; mem_rests = λ _. refl }

  either : (test : Bool) (x y : Effect) → Rests x → Rests y → Rests (cond test x y)
  either true x y p q = p
  either false x y p q = q

  value : (n : ℕ) → Rests (value_effect i pc regs csrs mem n)
  unfolding value_effect
  value n = moved _ _ _

  target : (to : ℕ) (after : List ℕ) → Rests (target_effect i pc regs csrs mem to after)
  target to after = either (is_aligned to) _ _ (jumped to after) (same _)

  jump : (to : ℕ) → Rests (jump_effect i pc regs csrs mem to)
  unfolding jump_effect
  jump to = target to _

  branch : (taken : Bool) → Rests (branch_effect i pc regs csrs mem taken)
  unfolding branch_effect
  branch taken = either taken _ _ (target _ _) (same _)

  load_if : (bad : Option ℕ) (n : ℕ) → Rests (load_unless i pc regs csrs mem bad n)
  load_if None n = value n
  load_if (Some bad) n = same _

  load : (size : ℕ) (made : ℕ → ℕ) → Rests (load_effect i pc regs csrs mem size made)
  unfolding load_effect
  load size made = load_if _ _

  store_if : (bad : Option ℕ) (size : ℕ) → Rests (store_unless i pc regs csrs mem bad size)
  store_if None size = moved _ _ _
  store_if (Some bad) size = same _

  store : (size : ℕ) → Rests (store_effect i pc regs csrs mem size)
  unfolding store_effect
  store size = store_if _ _

  exchange : (old : ℕ) (after : Option Csrs) → Rests (exchange_effect i pc regs csrs mem old after)
  exchange old None = same _
  exchange old (Some after) = moved _ _ _

  csr_at : (held : Option ℕ) (writes : Bool) (made : ℕ → ℕ → ℕ) (operand : ℕ) → Rests (change_effect i pc regs csrs mem held writes made operand)
  csr_at None writes made operand = same _
  csr_at (Some old) writes made operand = exchange old _

  csr : (writes : Bool) (made : ℕ → ℕ → ℕ) (operand : ℕ) → Rests (csr_effect i pc regs csrs mem writes made operand)
  unfolding csr_effect
  csr writes made operand = csr_at _ writes made operand

  by_operation : (op : Op) → Rests (effect_of i pc regs csrs mem op)
  unfolding effect_of
  by_operation Jal = jump _
  by_operation Jalr = jump _
  by_operation Beq = branch _
  by_operation Bne = branch _
  by_operation Blt = branch _
  by_operation Bge = branch _
  by_operation Bltu = branch _
  by_operation Bgeu = branch _
  by_operation Lb = load _ _
  by_operation Lh = load _ _
  by_operation Lw = load _ _
  by_operation Lbu = load _ _
  by_operation Lhu = load _ _
  by_operation Sb = store _
  by_operation Sh = store _
  by_operation Sw = store _
  by_operation Fence = same _
  by_operation FenceI = same _
  by_operation Ecall = same _
  by_operation Ebreak = same _
  by_operation Csrrw = csr _ _ _
  by_operation Csrrs = csr _ _ _
  by_operation Csrrc = csr _ _ _
  by_operation Csrrwi = csr _ _ _
  by_operation Csrrsi = csr _ _ _
  by_operation Csrrci = csr _ _ _
  by_operation _ = value _

  pub executed-rests : Rests (executed i pc regs csrs mem)
  unfolding executed
  executed-rests = by_operation i.op
