-- What each instruction keeps of the control registers.
use Rattle.std.proofs.Common.{ℕ, ◌≤◌, ◌==◌, Bool, true, false, cond, List, [], ◌∷◌, Option, Some, None, refl, arith}
use Rattle.std.specs.Prelude.{find, IfSome}
use Rattle.std.proofs.Math.Nat.{mod-lt}
use Rattle.std.specs.Option.{option_map}
use Rattle.guest_mem.specs.Pages.{Memory}
use Rattle.rv32_decode.specs.declared.instruction.Instr.{Instr}
use Rattle.rv32_decode.specs.declared.operations.Op.{Op}
use Rattle.rv32_decode.specs.declared.operations.Op.TheVariants.{Jal, Jalr, Beq, Bne, Blt, Bge, Bltu, Bgeu, Lb, Lh, Lw, Lbu, Lhu, Sb, Sh, Sw, Fence, FenceI, Ecall, Ebreak, Csrrw, Csrrs, Csrrc, Csrrwi, Csrrsi, Csrrci}
use Rattle.rvv_meaning.specs.declared.Csrs.{Csrs}
use Rattle.rvv_meaning.specs.declared.Flow.{Flow}
use Rattle.rvv_meaning.specs.Scalar.{Effect, effect, value_effect, target_effect, jump_effect, branch_effect, load_unless, load_effect, store_unless, store_effect, exchange_effect, csrs_after, change_effect, csr_effect, effect_of, executed}
use Rattle.rvv_meaning.specs.Scalar.Transfers.{is_aligned}
use Rattle.rvv_meaning.specs.Scalar.ControlRegisters.{entry_at, write, writable}
use Rattle.rv32_core.specs.Keeping.{Keeps}

-- what holds of each value of a table
AllValues : {A : Type 0} → (A → Type 0) → List (ℕ × A) → Type 0
AllValues P [] = Unit {0}
AllValues P (e ∷ es) = P e.1 × AllValues P es

-- holds of what is found in it
found-holds : {A : Type 0} (P : A → Type 0) (table : List (ℕ × A)) (number : ℕ) → AllValues P table → IfSome (entry_at table number) P
unfolding AllValues
found-holds P [] number all = tt
found-holds P (e ∷ es) number all =
    elim (e.0 == number) as (λ b. IfSome (option_map (λ entry. entry.1) (cond b (Some e) (find (λ entry. entry.0 == number) es))) P) [
      | true ↦ all.0
      | false ↦ found-holds P es number all.1
    ]

-- a write keeps them
write-keeps : (number value : ℕ) (csrs : Csrs) → csrs.vxrm ≤ 3 → IfSome (write number value csrs) (Keeps csrs)
unfolding AllValues write
write-keeps number value csrs h =
    found-holds (Keeps csrs) (writable value csrs) number (
      record { vlen = refl; vl = refl; vtype = refl; retired = refl; vxrm = h; vstart = λ below. mod-lt value (omega arith) },
      (
        record { vlen = refl; vl = refl; vtype = refl; retired = refl; vxrm = h; vstart = λ below. below },
        (
          record { vlen = refl; vl = refl; vtype = refl; retired = refl; vxrm = omega arith; vstart = λ below. below },
          (
            record { vlen = refl; vl = refl; vtype = refl; retired = refl; vxrm = omega arith; vstart = λ below. below },
            tt,
          ),
        ),
      ),
    )

module _ (i : Instr) (pc : ℕ) (regs : List ℕ) (csrs : Csrs) (mem : Memory) (h : csrs.vxrm ≤ 3) where
  -- an effect keeps them
  abbrev KeptBy : Effect → Type 0
  KeptBy e = Keeps csrs e.csrs

  changed : (flow : Flow) (after : List ℕ) (now : Csrs) (left : Memory) → Keeps csrs now → KeptBy (effect flow after now left)
  unfolding effect
  changed flow after now left k = k

  same : (flow : Flow) (after : List ℕ) (left : Memory) → KeptBy (effect flow after csrs left)
  same flow after left = changed flow after csrs left record { vlen = refl; vl = refl; vtype = refl; retired = refl; vxrm = h; vstart = λ below. below }

  either : (test : Bool) (x y : Effect) → KeptBy x → KeptBy y → KeptBy (cond test x y)
  either true x y p q = p
  either false x y p q = q

  value : (n : ℕ) → KeptBy (value_effect i pc regs csrs mem n)
  unfolding value_effect
  value n = same _ _ _

  target : (to : ℕ) (after : List ℕ) → KeptBy (target_effect i pc regs csrs mem to after)
  target to after = either (is_aligned to) _ _ (same _ _ _) (same _ _ _)

  jump : (to : ℕ) → KeptBy (jump_effect i pc regs csrs mem to)
  unfolding jump_effect
  jump to = target to _

  branch : (taken : Bool) → KeptBy (branch_effect i pc regs csrs mem taken)
  unfolding branch_effect
  branch taken = either taken _ _ (target _ _) (same _ _ _)

  load_if : (bad : Option ℕ) (n : ℕ) → KeptBy (load_unless i pc regs csrs mem bad n)
  load_if None n = value n
  load_if (Some bad) n = same _ _ _

  load : (size : ℕ) (made : ℕ → ℕ) → KeptBy (load_effect i pc regs csrs mem size made)
  unfolding load_effect
  load size made = load_if _ _

  store_if : (bad : Option ℕ) (size : ℕ) → KeptBy (store_unless i pc regs csrs mem bad size)
  store_if None size = same _ _ _
  store_if (Some bad) size = same _ _ _

  store : (size : ℕ) → KeptBy (store_effect i pc regs csrs mem size)
  unfolding store_effect
  store size = store_if _ _

  exchange : (old : ℕ) (after : Option Csrs) → IfSome after (Keeps csrs) → KeptBy (exchange_effect i pc regs csrs mem old after)
  exchange old None k = same _ _ _
  exchange old (Some after) k = changed _ _ _ _ k

  after : (writes : Bool) (new : ℕ) → IfSome (csrs_after i pc regs csrs mem writes new) (Keeps csrs)
  after true new = write-keeps i.imm new csrs h
  after false new = record { vlen = refl; vl = refl; vtype = refl; retired = refl; vxrm = h; vstart = λ below. below }

  csr_at : (held : Option ℕ) (writes : Bool) (made : ℕ → ℕ → ℕ) (operand : ℕ) → KeptBy (change_effect i pc regs csrs mem held writes made operand)
  csr_at None writes made operand = same _ _ _
  csr_at (Some old) writes made operand = exchange old _ (after writes (made old operand))

  csr : (writes : Bool) (made : ℕ → ℕ → ℕ) (operand : ℕ) → KeptBy (csr_effect i pc regs csrs mem writes made operand)
  unfolding csr_effect
  csr writes made operand = csr_at _ writes made operand

  by_operation : (op : Op) → KeptBy (effect_of i pc regs csrs mem op)
  unfolding effect_of
  by_operation Jal = jump _
  by_operation Jalr = jump _
  by_operation Beq = branch _
  by_operation Bne = branch _
  by_operation Blt = branch _
  by_operation Bge = branch _
  by_operation Bltu = branch _
  by_operation Bgeu = branch _
  by_operation Lb = load _ _
  by_operation Lh = load _ _
  by_operation Lw = load _ _
  by_operation Lbu = load _ _
  by_operation Lhu = load _ _
  by_operation Sb = store _
  by_operation Sh = store _
  by_operation Sw = store _
  by_operation Fence = same _ _ _
  by_operation FenceI = same _ _ _
  by_operation Ecall = same _ _ _
  by_operation Ebreak = same _ _ _
  by_operation Csrrw = csr _ _ _
  by_operation Csrrs = csr _ _ _
  by_operation Csrrc = csr _ _ _
  by_operation Csrrwi = csr _ _ _
  by_operation Csrrsi = csr _ _ _
  by_operation Csrrci = csr _ _ _
  by_operation _ = value _

  pub executed-keeps : Keeps csrs (executed i pc regs csrs mem).csrs
  unfolding executed
  executed-keeps = by_operation i.op
