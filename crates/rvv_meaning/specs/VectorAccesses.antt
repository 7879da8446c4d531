-- What each vector load and store moves (vector extension 1.0, section 7).
use Rattle.std.specs.Prelude.{ℕ, ◌+◌, ◌*◌, ◌/◌, Bool, true, false, not, max}
use Rattle.rvv_decode.specs.declared.instruction.MemoryOp.{MemoryOp}
use Rattle.rvv_decode.specs.declared.instruction.MemoryOp.TheVariants.{LoadUnitStride, LoadWholeRegister, LoadMask, LoadFaultOnlyFirst, LoadIndexedUnordered, LoadStrided, LoadIndexedOrdered, StoreUnitStride, StoreWholeRegister, StoreMask, StoreIndexedUnordered, StoreStrided, StoreIndexedOrdered}
use Rattle.rvv_decode.specs.declared.instruction.VInstr.{VInstr}
use Rattle.rvv_decode.specs.declared.instruction.VOp.{VOp}
use Rattle.rvv_decode.specs.declared.instruction.VOp.TheVariants.{Memory}
use Rattle.vtype_cfg.specs.Groups.{emul_of}
use Rattle.vtype_cfg.specs.declared.configuration.Cfg.{Cfg}
use Rattle.rvv_meaning.specs.declared.accesses.Offset.{Offset}
use Rattle.rvv_meaning.specs.declared.accesses.Offset.TheVariants.{Step, Index}
use Rattle.rvv_meaning.specs.declared.accesses.Access.{Access}

-- how the elements of an instruction lie in memory and in the registers: vl elements of its own width, side by side
-- (unit) or at a stride, or of SEW at indices of that width; the bytes of a mask; or all elements of whole registers
pub data Shape : Type 0 where
  unit : Shape
  strided : Shape
  indexed : Shape
  mask : Shape
  whole : Shape

unfoldable pub shape_of : MemoryOp → Shape
shape_of LoadUnitStride = unit
shape_of LoadWholeRegister = whole
shape_of LoadMask = mask
shape_of LoadFaultOnlyFirst = unit
shape_of LoadIndexedUnordered = indexed
shape_of LoadStrided = strided
shape_of LoadIndexedOrdered = indexed
shape_of StoreUnitStride = unit
shape_of StoreWholeRegister = whole
shape_of StoreMask = mask
shape_of StoreIndexedUnordered = indexed
shape_of StoreStrided = strided
shape_of StoreIndexedOrdered = indexed

-- a fault above element 0 of such a load sets the vector length
unfoldable pub trims_of : MemoryOp → Bool
trims_of LoadFaultOnlyFirst = true
trims_of _ = false

-- the instruction writes memory
unfoldable pub is_store : MemoryOp → Bool
is_store LoadUnitStride = false
is_store LoadWholeRegister = false
is_store LoadMask = false
is_store LoadFaultOnlyFirst = false
is_store LoadIndexedUnordered = false
is_store LoadStrided = false
is_store LoadIndexedOrdered = false
is_store StoreUnitStride = true
is_store StoreWholeRegister = true
is_store StoreMask = true
is_store StoreIndexedUnordered = true
is_store StoreStrided = true
is_store StoreIndexedOrdered = true

-- loads, and stores
abbrev pub reads_memory : VOp → Bool
reads_memory (Memory op) = not (is_store op)
reads_memory op = false

abbrev pub writes_memory : VOp → Bool
writes_memory (Memory op) = is_store op
writes_memory op = false

-- the registers of a group of elements of so many bits
abbrev pub group_count : Cfg → ℕ → ℕ
group_count c width = max 1 (emul_of c.vtype width / 8)

-- vl elements of so many bits, at this offset
abbrev pub of_elements : VInstr → Cfg → (width : ℕ) → (trims : Bool) → Offset → Access
of_elements i c width trims offset = record {
  register = i.vd;
  registers = group_count c width;
  fields = i.nf;
  width = width;
  len = c.vl;
  masked = not i.vm;
  agnostic_tail = false;
  trims = trims;
  offset = offset;
}

-- so many elements side by side that fill no more than these registers, whatever the vector type is
abbrev pub of_registers : VInstr → (registers width len : ℕ) → (agnostic_tail : Bool) → Access
of_registers i registers width len agnostic_tail = record {
  register = i.vd;
  registers = registers;
  fields = 1;
  width = width;
  len = len;
  masked = false;
  agnostic_tail = agnostic_tail;
  trims = false;
  offset = Step (width / 8);
}

abbrev pub of_shape : Shape → Bool → VInstr → Cfg → (stride : ℕ) → Access
of_shape unit trims i c stride = of_elements i c i.eew trims (Step (i.nf * (i.eew / 8)))
of_shape strided trims i c stride = of_elements i c i.eew trims (Step stride)
of_shape indexed trims i c stride = of_elements i c c.vtype.sew trims (Index i.vs2 i.eew)
of_shape mask trims i c stride = of_registers i 1 8 ((c.vl + 7) / 8) true
of_shape whole trims i c stride = of_registers i i.nf i.eew (i.nf * c.vlen / i.eew) false

unfoldable pub access_of : MemoryOp → VInstr → Cfg → (stride : ℕ) → Access
access_of op i c stride = of_shape (shape_of op) (trims_of op) i c stride
