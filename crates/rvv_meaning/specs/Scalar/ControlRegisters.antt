-- The control and status registers that a program can reach (chapter Zicsr): those of the vector extension (vector
-- extension 1.0, sections 3.4 to 3.10) and the counters (chapter Zicntr).
use Rattle.std.specs.Prelude.{◌==◌, ℕ, ◌+◌, ◌*◌, ◌/◌, ◌%◌, ◌^◌, Bool, List, [], ◌∷◌, Option, find, bit_and, bit_or}
use Rattle.std.specs.Int.{w32, bit_not, from_bool}
use Rattle.std.specs.Option.{option_map}
use Rattle.rvv_meaning.specs.declared.Csrs.{Csrs}
use Rattle.rvv_meaning.specs.Scalar.CsrNumbers as number

-- what a table has at a number
abbrev pub entry_at : {A : Type 0} → List (ℕ × A) → ℕ → Option A
entry_at table place = option_map (λ entry. entry.1) (find (λ entry. entry.0 == place) table)

-- the registers that can be read, and what each holds; a cycle is an instruction retired (chapter Zicntr)
abbrev pub readable : Csrs → List (ℕ × ℕ)
readable csrs =
    (number.vstart, csrs.vstart)
    ∷ (number.vxsat, from_bool csrs.vxsat)
    ∷ (number.vxrm, csrs.vxrm)
    ∷ (number.vcsr, csrs.vxrm * 2 + from_bool csrs.vxsat)
    ∷ (number.vl, csrs.vl)
    ∷ (number.vtype, csrs.vtype)
    ∷ (number.vlenb, csrs.vlen / 8)
    ∷ (number.cycle, csrs.retired % 2 ^ 32)
    ∷ (number.instret, csrs.retired % 2 ^ 32)
    ∷ (number.cycleh, csrs.retired / 2 ^ 32)
    ∷ (number.instreth, csrs.retired / 2 ^ 32)
    ∷ []

-- what a control register holds; none where no register has the number (chapter Zicsr)
unfoldable pub read : ℕ → Csrs → Option ℕ
read place csrs = entry_at (readable csrs) place

-- whether the lowest bit is 1
abbrev pub low_bit : ℕ → Bool
low_bit value = value % 2 == 1

-- the registers that can be written, and what a write leaves: vstart keeps the bits of an element's number, vxsat one bit,
-- vxrm two, and vcsr those three (vector extension 1.0, sections 3.7 to 3.10)
abbrev pub writable : ℕ → Csrs → List (ℕ × Csrs)
writable value csrs =
    (number.vstart, record csrs { vstart = value % csrs.vlen })
    ∷ (number.vxsat, record csrs { vxsat = low_bit value })
    ∷ (number.vxrm, record csrs { vxrm = value % 4 })
    ∷ (number.vcsr, record csrs { vxsat = low_bit value; vxrm = value / 2 % 4 })
    ∷ []

-- the control registers after a write; none where no register has the number, or it can only be read (chapter Zicsr)
unfoldable pub write : ℕ → ℕ → Csrs → Option Csrs
write place value csrs = entry_at (writable value csrs) place

-- What is written, from what the register held and an operand, under the names of the instructions (chapter Zicsr).

-- the operand (chapter Zicsr)
abbrev pub csrrw : ℕ → ℕ → ℕ
csrrw old operand = operand

-- the old value with the operand's bits set (chapter Zicsr)
abbrev pub csrrs : ℕ → ℕ → ℕ
csrrs old operand = bit_or old operand

-- the old value with the operand's bits cleared (chapter Zicsr)
abbrev pub csrrc : ℕ → ℕ → ℕ
csrrc old operand = bit_and old (bit_not w32 operand)
