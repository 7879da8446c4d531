-- Loads and stores worked out by hand: what they move, and where their elements stand.
use Rattle.std.proofs.Common.{◌≡◌, ℕ, ◌*◌, ◌/◌, true, false, [], ◌∷◌, Some, refl}
use Rattle.rvv_decode.specs.declared.instruction.VInstr.{VInstr}
use Rattle.rvv_decode.specs.declared.instruction.VOp.TheVariants.{Memory}
use Rattle.rvv_decode.specs.declared.instruction.MemoryOp.{MemoryOp}
use Rattle.rvv_decode.specs.declared.instruction.MemoryOp.TheVariants.{LoadUnitStride, LoadFaultOnlyFirst, LoadMask, StoreWholeRegister}
use Rattle.rvv_decode.specs.declared.instruction.Form.TheVariants.{V}
use Rattle.vtype_cfg.specs.declared.configuration.Cfg.{Cfg}
use Rattle.vtype_cfg.specs.declared.configuration.Policy.TheVariants.{Keep}
use Rattle.rvv_meaning.specs.declared.accesses.Offset.TheVariants.{Step}
use Rattle.rvv_meaning.specs.declared.accesses.Access.{Access}
use Rattle.rvv_meaning.specs.LoadsAndStores.{address, field_address, moved, cfg_after}
use Rattle.rvv_meaning.specs.VectorAccesses.{access_of, shape_of, trims_of}

word : MemoryOp → (fields width vs2 : ℕ) → VInstr
word op fields width vs2 = record { op = Memory op; form = V; vd = 2; vs1 = 10; vs2 = vs2; vm = true; nf = fields; eew = width; zimm = 0 }

setting : (sew vlen vstart vl : ℕ) → Cfg
setting sew vlen vstart vl = record { vtype = record { vill = false; vta = false; vma = false; sew = sew; lmul8 = 8 }; vl = vl; vstart = vstart; vxrm = 0; vlen = vlen; policy = Keep }

abbrev access_with : (registers fields width len : ℕ) → Access
access_with registers fields width len = record { register = 2; registers = registers; fields = fields; width = width; len = len; masked = false; agnostic_tail = false; trims = false; offset = Step (fields * (width / 8)) }

-- vlseg3e8.v at m1; vle8.v at e32 has a quarter of a register; vlm.v of 11 elements; vs4r.v
segment : access_of LoadUnitStride (word LoadUnitStride 3 8 0) (setting 8 1024 0 8) 0 ≡ access_with 1 3 8 8
unfolding word setting access_of shape_of trims_of
segment = refl

quarter : access_of LoadFaultOnlyFirst (word LoadFaultOnlyFirst 1 8 0) (setting 32 1024 0 8) 0 ≡ record (access_with 1 1 8 8) { trims = true }
unfolding word setting access_of shape_of trims_of
quarter = refl

mask : access_of LoadMask (word LoadMask 1 8 11) (setting 8 1024 0 11) 0 ≡ record (access_with 1 1 8 2) { agnostic_tail = true }
unfolding word setting access_of shape_of trims_of
mask = refl

whole : access_of StoreWholeRegister (word StoreWholeRegister 4 8 8) (setting 8 1024 0 3) 0 ≡ access_with 4 1 8 512
unfolding word setting access_of shape_of trims_of
whole = refl

-- the elements from vstart on, and where the fields of element 4 stand
elements : moved (setting 8 1024 4 8) (access_with 1 3 8 8) 0x7ffffff2 [] ≡ 4 ∷ 5 ∷ 6 ∷ 7 ∷ []
unfolding setting moved
elements = refl

last_field : field_address (setting 8 1024 0 8) (access_with 1 3 8 8) 0x7ffffff2 [] 2 4 ≡ 0x80000000
unfolding setting address field_address
last_field = refl

-- A stop of a fault-only-first load at element 5 sets vl. One at element 0 traps.
trimmed : cfg_after (setting 8 1024 0 8) (record (access_with 1 1 8 8) { trims = true }) (Some 5) ≡ setting 8 1024 0 5
unfolding setting cfg_after
trimmed = refl

at_first : cfg_after (setting 8 1024 0 8) (record (access_with 1 1 8 8) { trims = true }) (Some 0) ≡ setting 8 1024 0 8
unfolding setting cfg_after
at_first = refl
