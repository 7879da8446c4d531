-- The rows of loads and stores. Bits 24:20 of a unit-stride word are a part of its operation.
use Rattle.std.specs.Prelude.{ℕ, ◌==◌, if◌then◌else◌, List, [], ◌∷◌, ◌++◌}
use Rattle.word_rows.specs.Rows.{Row}
use Rattle.rvv_decode.specs.Layouts.{Kind, memory}
use Rattle.rvv_decode.specs.Shapes.{Fixed, opcode_is, funct3_is, vs2_is, vm_is, mop_is, mew_is, nf_is, row}
use Rattle.rvv_decode.specs.declared.instruction.VOp.TheVariants.{Memory}
use Rattle.rvv_decode.specs.declared.instruction.MemoryOp.{MemoryOp}
use Rattle.rvv_decode.specs.declared.instruction.MemoryOp.TheVariants.{LoadUnitStride, LoadWholeRegister, LoadMask, LoadFaultOnlyFirst, LoadIndexedUnordered, LoadStrided, LoadIndexedOrdered, StoreUnitStride, StoreWholeRegister, StoreMask, StoreIndexedUnordered, StoreStrided, StoreIndexedOrdered}

abbrev pub load_fp : ℕ
load_fp = 0b0000111

abbrev pub store_fp : ℕ
store_fp = 0b0100111

-- bits 14:12 of a word of an element width in bits
abbrev pub width_of : ℕ → ℕ
width_of eew = if eew == 8 then 0b000 else (if eew == 16 then 0b101 else 0b110)

-- a row of loads: the element width, what else is fixed, the name
abbrev pub load : ℕ → List Fixed → MemoryOp → Row Kind
load eew others name = row (mew_is 0 ∷ funct3_is (width_of eew) ∷ opcode_is load_fp ∷ others) (Memory name) (memory eew)

-- the same of stores
abbrev pub store : ℕ → List Fixed → MemoryOp → Row Kind
store eew others name = row (mew_is 0 ∷ funct3_is (width_of eew) ∷ opcode_is store_fp ∷ others) (Memory name) (memory eew)

-- the loads that each width has
abbrev pub loads : ℕ → List (Row Kind)
loads eew =
    load eew (mop_is 0b00 ∷ vs2_is 0b00000 ∷ []) LoadUnitStride
    ∷ load eew (mop_is 0b00 ∷ vs2_is 0b01000 ∷ vm_is 1 ∷ nf_is 0 ∷ []) LoadWholeRegister
    ∷ load eew (mop_is 0b00 ∷ vs2_is 0b01000 ∷ vm_is 1 ∷ nf_is 1 ∷ []) LoadWholeRegister
    ∷ load eew (mop_is 0b00 ∷ vs2_is 0b01000 ∷ vm_is 1 ∷ nf_is 3 ∷ []) LoadWholeRegister
    ∷ load eew (mop_is 0b00 ∷ vs2_is 0b01000 ∷ vm_is 1 ∷ nf_is 7 ∷ []) LoadWholeRegister
    ∷ load eew (mop_is 0b00 ∷ vs2_is 0b10000 ∷ []) LoadFaultOnlyFirst
    ∷ load eew (mop_is 0b01 ∷ []) LoadIndexedUnordered
    ∷ load eew (mop_is 0b10 ∷ []) LoadStrided
    ∷ load eew (mop_is 0b11 ∷ []) LoadIndexedOrdered
    ∷ []

-- the stores that each width has
abbrev pub stores : ℕ → List (Row Kind)
stores eew =
    store eew (mop_is 0b00 ∷ vs2_is 0b00000 ∷ []) StoreUnitStride
    ∷ store eew (mop_is 0b01 ∷ []) StoreIndexedUnordered
    ∷ store eew (mop_is 0b10 ∷ []) StoreStrided
    ∷ store eew (mop_is 0b11 ∷ []) StoreIndexedOrdered
    ∷ []

unfoldable pub load_rows : List (Row Kind)
load_rows =
    loads 8
    ++ loads 16
    ++ loads 32
    ++ load 8 (mop_is 0b00 ∷ vs2_is 0b01011 ∷ vm_is 1 ∷ nf_is 0 ∷ []) LoadMask ∷ []

unfoldable pub store_rows : List (Row Kind)
store_rows =
    stores 8
    ++ stores 16
    ++ stores 32
    ++ store 8 (mop_is 0b00 ∷ vs2_is 0b01000 ∷ vm_is 1 ∷ nf_is 0 ∷ []) StoreWholeRegister
    ∷ store 8 (mop_is 0b00 ∷ vs2_is 0b01000 ∷ vm_is 1 ∷ nf_is 1 ∷ []) StoreWholeRegister
    ∷ store 8 (mop_is 0b00 ∷ vs2_is 0b01000 ∷ vm_is 1 ∷ nf_is 3 ∷ []) StoreWholeRegister
    ∷ store 8 (mop_is 0b00 ∷ vs2_is 0b01000 ∷ vm_is 1 ∷ nf_is 7 ∷ []) StoreWholeRegister
    ∷ store 8 (mop_is 0b00 ∷ vs2_is 0b01011 ∷ vm_is 1 ∷ nf_is 0 ∷ []) StoreMask
    ∷ []
