-- What each scalar instruction does, as the unprivileged specification says: RV32I (chapter 2), M, Zicsr and Zifencei
-- (the chapters of these names). Sections are those of that specification in its edition of 2024.
pub mod Registers
pub mod Arithmetic
pub mod Transfers
pub mod Accesses
pub mod CsrNumbers
pub mod ControlRegisters
pub mod Words
use Rattle.std.specs.Prelude.{◌==◌, not, ℕ, Bool, true, false, List, Option, Some, None, slice_index, if◌then◌else◌}
use Rattle.guest_mem.specs.Pages.{Memory, first_bad, loaded, stored}
use Rattle.rv32_decode.specs.declared.operations.Op.{Op}
use Rattle.rv32_decode.specs.declared.operations.Op.TheVariants.{Lui, Auipc, Jal, Jalr, Beq, Bne, Blt, Bge, Bltu, Bgeu, Lb, Lh, Lw, Lbu, Lhu, Sb, Sh, Sw, Addi, Slti, Sltiu, Xori, Ori, Andi, Slli, Srli, Srai, Add, Sub, Sll, Slt, Sltu, Xor, Srl, Sra, Or, And, Mul, Mulh, Mulhsu, Mulhu, Div, Divu, Rem, Remu, Fence, FenceI, Ecall, Ebreak, Csrrw, Csrrs, Csrrc, Csrrwi, Csrrsi, Csrrci}
use Rattle.rv32_decode.specs.declared.instruction.Instr.{Instr}
use Rattle.rvv_meaning.specs.declared.Csrs.{Csrs}
use Rattle.rvv_meaning.specs.declared.Flow.{Flow}
use Rattle.rvv_meaning.specs.declared.Flow.TheVariants.{Next, Jump, Call, Trap}
use Rattle.rvv_meaning.specs.Scalar.Registers.{written}
use Rattle.rvv_meaning.specs.Scalar.Arithmetic as value
use Rattle.rvv_meaning.specs.Scalar.Transfers as transfer
use Rattle.rvv_meaning.specs.Scalar.Accesses as access
use Rattle.rvv_meaning.specs.Scalar.ControlRegisters as control
use Rattle.rvv_meaning.specs.Scalar.Words.{word_of}

-- what an instruction leaves: where the program goes on, the registers, the control registers and the memory
pub record Effect : Type 0 where
  pub flow : Flow
  pub regs : List ℕ
  pub csrs : Csrs
  pub mem : Memory

-- the effect with these parts
unfoldable pub effect : Flow → List ℕ → Csrs → Memory → Effect
effect flow regs csrs mem = record { flow = flow; regs = regs; csrs = csrs; mem = mem }

-- The causes of traps, by their numbers (privileged specification, mcause).

-- a jump or a branch to a target that is not aligned (section 2.5)
abbrev pub misaligned_target : ℕ
misaligned_target = 0

-- an illegal instruction (chapter Zicsr)
abbrev pub illegal_instruction : ℕ
illegal_instruction = 2

-- a breakpoint (section 2.8)
abbrev pub breakpoint : ℕ
breakpoint = 3

-- a load of a byte that may not be read (section 2.6)
abbrev pub load_fault : ℕ
load_fault = 5

-- a store to a byte that may not be written (section 2.6)
abbrev pub store_fault : ℕ
store_fault = 7

-- an instruction, its address, and the state that it finds
module _ (i : Instr) (pc : ℕ) (regs : List ℕ) (csrs : Csrs) (mem : Memory) where
  -- x[rs1] (section 2.2)
  abbrev pub first : ℕ
  first = slice_index regs i.rs1

  -- x[rs2] (section 2.2)
  abbrev pub second : ℕ
  second = slice_index regs i.rs2

  -- nothing changes, and the next instruction follows (section 2.7, fences)
  abbrev pub no_effect : Effect
  no_effect = effect Next regs csrs mem

  -- a trap of some cause, about some address or word; nothing changes (section 1.6)
  abbrev pub trap_effect : ℕ → ℕ → Effect
  trap_effect cause about = effect (Trap record { cause = cause; pc = pc; value = about }) regs csrs mem

  -- x[rd] gets a value (section 2.4)
  unfoldable pub value_effect : ℕ → Effect
  value_effect n = effect Next (written regs i.rd n) csrs mem

  -- the program goes on at a target with these registers, or traps where the target is not aligned (section 2.5)
  abbrev pub target_effect : ℕ → List ℕ → Effect
  target_effect target after =
      if transfer.is_aligned target then effect (Jump target) after csrs mem else trap_effect misaligned_target target

  -- a jump; x[rd] gets the address of the next word (section 2.5.1)
  unfoldable pub jump_effect : ℕ → Effect
  jump_effect target = target_effect target (written regs i.rd (value.add pc transfer.word_size))

  -- a branch, which is taken where its condition holds (section 2.5.2)
  unfoldable pub branch_effect : Bool → Effect
  branch_effect taken = if taken then target_effect (value.add pc i.imm) regs else no_effect

  -- the address of an access (section 2.6)
  abbrev pub address : ℕ
  address = value.add first i.imm

  -- a value is loaded, unless an address may not be read (section 2.6)
  abbrev pub load_unless : Option ℕ → ℕ → Effect
  load_unless None n = value_effect n
  load_unless (Some bad) n = trap_effect load_fault bad

  -- a load of so many bytes, and what is made of their number (section 2.6)
  unfoldable pub load_effect : ℕ → (ℕ → ℕ) → Effect
  load_effect size made =
      load_unless (first_bad mem.pages access.to_read address size) (made (loaded mem.pages address size))

  -- so many low bytes of x[rs2] are stored, unless an address may not be written (section 2.6)
  abbrev pub store_unless : Option ℕ → ℕ → Effect
  store_unless None size = effect Next regs csrs (record mem { pages = stored mem.pages address second size })
  store_unless (Some bad) size = trap_effect store_fault bad

  -- a store of so many bytes (section 2.6)
  unfoldable pub store_effect : ℕ → Effect
  store_effect size = store_unless (first_bad mem.pages access.to_write address size) size

  -- an instruction that is illegal; its trap is about its word (chapter Zicsr)
  abbrev pub illegal_effect : Effect
  illegal_effect = trap_effect illegal_instruction (word_of i)

  -- x[rd] gets what a control register held, unless the write of another value is illegal (chapter Zicsr)
  abbrev pub exchange_effect : ℕ → Option Csrs → Effect
  exchange_effect old None = illegal_effect
  exchange_effect old (Some after) = effect Next (written regs i.rd old) after mem

  -- the control registers after a value is written, or is not (chapter Zicsr)
  abbrev pub csrs_after : Bool → ℕ → Option Csrs
  csrs_after writes new = if writes then control.write i.imm new csrs else Some csrs

  -- a control register changes from what it held, unless none has the number (chapter Zicsr)
  abbrev pub change_effect : Option ℕ → Bool → (ℕ → ℕ → ℕ) → ℕ → Effect
  change_effect None writes made operand = illegal_effect
  change_effect (Some old) writes made operand = exchange_effect old (csrs_after writes (made old operand))

  -- an instruction on a control register: whether it writes, what it makes of the old value and an operand, and the
  -- operand (chapter Zicsr)
  unfoldable pub csr_effect : Bool → (ℕ → ℕ → ℕ) → ℕ → Effect
  csr_effect writes made operand = change_effect (control.read i.imm csrs) writes made operand

  -- whether csrrs, csrrc and their forms with an immediate write: where the rs1 field is not 0 (chapter Zicsr)
  abbrev pub has_operand : Bool
  has_operand = not (i.rs1 == 0)

  -- the effect of each operation; a form with an immediate does the same with it as the other with x[rs2], and the forms
  -- of csrrw, csrrs and csrrc with an immediate have it in the rs1 field
  unfoldable pub effect_of : Op → Effect
  effect_of Lui = value_effect i.imm
  effect_of Auipc = value_effect (value.add pc i.imm)
  effect_of Jal = jump_effect (value.add pc i.imm)
  effect_of Jalr = jump_effect (transfer.even (value.add first i.imm))
  effect_of Beq = branch_effect (transfer.beq first second)
  effect_of Bne = branch_effect (transfer.bne first second)
  effect_of Blt = branch_effect (transfer.blt first second)
  effect_of Bge = branch_effect (transfer.bge first second)
  effect_of Bltu = branch_effect (transfer.bltu first second)
  effect_of Bgeu = branch_effect (transfer.bgeu first second)
  effect_of Lb = load_effect access.byte access.lb
  effect_of Lh = load_effect access.halfword access.lh
  effect_of Lw = load_effect access.word access.lw
  effect_of Lbu = load_effect access.byte access.lbu
  effect_of Lhu = load_effect access.halfword access.lhu
  effect_of Sb = store_effect access.byte
  effect_of Sh = store_effect access.halfword
  effect_of Sw = store_effect access.word
  effect_of Addi = value_effect (value.add first i.imm)
  effect_of Slti = value_effect (value.slt first i.imm)
  effect_of Sltiu = value_effect (value.sltu first i.imm)
  effect_of Xori = value_effect (value.xor first i.imm)
  effect_of Ori = value_effect (value.or first i.imm)
  effect_of Andi = value_effect (value.and first i.imm)
  effect_of Slli = value_effect (value.sll first i.imm)
  effect_of Srli = value_effect (value.srl first i.imm)
  effect_of Srai = value_effect (value.sra first i.imm)
  effect_of Add = value_effect (value.add first second)
  effect_of Sub = value_effect (value.sub first second)
  effect_of Sll = value_effect (value.sll first second)
  effect_of Slt = value_effect (value.slt first second)
  effect_of Sltu = value_effect (value.sltu first second)
  effect_of Xor = value_effect (value.xor first second)
  effect_of Srl = value_effect (value.srl first second)
  effect_of Sra = value_effect (value.sra first second)
  effect_of Or = value_effect (value.or first second)
  effect_of And = value_effect (value.and first second)
  effect_of Mul = value_effect (value.mul first second)
  effect_of Mulh = value_effect (value.mulh first second)
  effect_of Mulhsu = value_effect (value.mulhsu first second)
  effect_of Mulhu = value_effect (value.mulhu first second)
  effect_of Div = value_effect (value.div first second)
  effect_of Divu = value_effect (value.divu first second)
  effect_of Rem = value_effect (value.rem first second)
  effect_of Remu = value_effect (value.remu first second)
  effect_of Fence = no_effect
  effect_of FenceI = no_effect
  effect_of Ecall = effect Call regs csrs mem
  effect_of Ebreak = trap_effect breakpoint pc
  effect_of Csrrw = csr_effect true control.csrrw first
  effect_of Csrrs = csr_effect has_operand control.csrrs first
  effect_of Csrrc = csr_effect has_operand control.csrrc first
  effect_of Csrrwi = csr_effect true control.csrrw i.rs1
  effect_of Csrrsi = csr_effect has_operand control.csrrs i.rs1
  effect_of Csrrci = csr_effect has_operand control.csrrc i.rs1

-- what an instruction at an address leaves of the registers, the control registers and the memory
unfoldable pub executed : Instr → ℕ → List ℕ → Csrs → Memory → Effect
executed i pc regs csrs mem = effect_of i pc regs csrs mem i.op
