-- The classes of vector instructions by their operands: the class of each name, and what the instructions of each class
-- have in the places of their registers (vector extension 1.0, sections 7 and 11 to 16).
use Rattle.std.specs.Prelude.{ℕ, ◌+◌, ◌*◌, ◌/◌, Bool, true, false, nat_lt, List, [], ◌∷◌, Option, Some, None, if◌then◌else◌}
use Rattle.std.specs.Option.{option_map_or}
use Rattle.rvv_decode.specs.declared.instruction.VInstr.{VInstr}
use Rattle.rvv_decode.specs.declared.instruction.Form.{Form}
use Rattle.rvv_decode.specs.declared.instruction.Form.TheVariants.{V, X, I}
use Rattle.rvv_decode.specs.declared.instruction.VOp.{VOp}
use Rattle.rvv_decode.specs.declared.instruction.VOp.TheVariants.{Opi, Opm, Config, Memory}
use Rattle.rvv_decode.specs.declared.instruction.OpiOp.{OpiOp}
use Rattle.rvv_decode.specs.declared.instruction.OpiOp.TheVariants.{Vadd, Vsub, Vrsub, Vminu, Vmin, Vmaxu, Vmax, Vand, Vor, Vxor, Vrgather, Vrgatherei16, Vslideup, Vslidedown, Vadc, Vmadc, Vsbc, Vmsbc, Vmerge, VmvV, Vmseq, Vmsne, Vmsltu, Vmslt, Vmsleu, Vmsle, Vmsgtu, Vmsgt, Vsaddu, Vsadd, Vssubu, Vssub, Vsll, Vsmul, VmvWhole, Vsrl, Vsra, Vssrl, Vssra, Vnsrl, Vnsra, Vnclipu, Vnclip, Vwredsumu, Vwredsum}
use Rattle.rvv_decode.specs.declared.instruction.OpmOp.{OpmOp}
use Rattle.rvv_decode.specs.declared.instruction.OpmOp.TheVariants.{Vredsum, Vredand, Vredor, Vredxor, Vredminu, Vredmin, Vredmaxu, Vredmax, Vaaddu, Vaadd, Vasubu, Vasub, Vslide1up, Vslide1down, VmvXS, Vcpop, Vfirst, VmvSX, VzextVf4, VsextVf4, VzextVf2, VsextVf2, Vmsbf, Vmsof, Vmsif, Viota, Vid, Vcompress, Vmandn, Vmand, Vmor, Vmxor, Vmorn, Vmnand, Vmnor, Vmxnor, Vdivu, Vdiv, Vremu, Vrem, Vmulhu, Vmul, Vmulhsu, Vmulh, Vmadd, Vnmsub, Vmacc, Vnmsac, Vwaddu, Vwadd, Vwsubu, Vwsub, VwadduW, VwaddW, VwsubuW, VwsubW, Vwmulu, Vwmulsu, Vwmul, Vwmaccu, Vwmacc, Vwmaccus, Vwmaccsu}
use Rattle.rvv_decode.specs.declared.instruction.MemoryOp.{MemoryOp}
use Rattle.rvv_decode.specs.declared.instruction.MemoryOp.TheVariants.{LoadUnitStride, LoadWholeRegister, LoadMask, LoadFaultOnlyFirst, LoadIndexedUnordered, LoadStrided, LoadIndexedOrdered, StoreUnitStride, StoreWholeRegister, StoreMask, StoreIndexedUnordered, StoreStrided, StoreIndexedOrdered}
use Rattle.vtype_cfg.specs.declared.vtype.Vtype.{Vtype}
use Rattle.vtype_cfg.specs.Groups.{Operand, mask_at, register_at, groups_at, whole_at, group_registers}

-- instructions whose operands obey the same rules
pub data Class : Type 0 where
  plain : Class
  move : Class
  widening : Class
  wide_source : Class
  narrowing : Class
  extension_by_two : Class
  extension_by_four : Class
  compare : Class
  reduction : Class
  widening_reduction : Class
  mask_logic : Class
  mask_count : Class
  mask_first : Class
  iota : Class
  index : Class
  compress : Class
  gather : Class
  gather_sixteen : Class
  slide_up : Class
  scalar_in : Class
  scalar_out : Class
  whole_move : Class
  configuration : Class
  load : Class
  store : Class
  indexed_load : Class
  indexed_store : Class
  whole_load : Class
  whole_store : Class
  mask_load : Class
  mask_store : Class

-- the class of each instruction of OPIVV, OPIVX and OPIVI
unfoldable pub opi_class : OpiOp → Class
opi_class Vadd = plain
opi_class Vsub = plain
opi_class Vrsub = plain
opi_class Vminu = plain
opi_class Vmin = plain
opi_class Vmaxu = plain
opi_class Vmax = plain
opi_class Vand = plain
opi_class Vor = plain
opi_class Vxor = plain
opi_class Vrgather = gather
opi_class Vrgatherei16 = gather_sixteen
opi_class Vslideup = slide_up
opi_class Vslidedown = plain
opi_class Vadc = plain
opi_class Vmadc = compare
opi_class Vsbc = plain
opi_class Vmsbc = compare
opi_class Vmerge = plain
opi_class VmvV = move
opi_class Vmseq = compare
opi_class Vmsne = compare
opi_class Vmsltu = compare
opi_class Vmslt = compare
opi_class Vmsleu = compare
opi_class Vmsle = compare
opi_class Vmsgtu = compare
opi_class Vmsgt = compare
opi_class Vsaddu = plain
opi_class Vsadd = plain
opi_class Vssubu = plain
opi_class Vssub = plain
opi_class Vsll = plain
opi_class Vsmul = plain
opi_class VmvWhole = whole_move
opi_class Vsrl = plain
opi_class Vsra = plain
opi_class Vssrl = plain
opi_class Vssra = plain
opi_class Vnsrl = narrowing
opi_class Vnsra = narrowing
opi_class Vnclipu = narrowing
opi_class Vnclip = narrowing
opi_class Vwredsumu = widening_reduction
opi_class Vwredsum = widening_reduction

-- the class of each instruction of OPMVV and OPMVX
unfoldable pub opm_class : OpmOp → Class
opm_class Vredsum = reduction
opm_class Vredand = reduction
opm_class Vredor = reduction
opm_class Vredxor = reduction
opm_class Vredminu = reduction
opm_class Vredmin = reduction
opm_class Vredmaxu = reduction
opm_class Vredmax = reduction
opm_class Vaaddu = plain
opm_class Vaadd = plain
opm_class Vasubu = plain
opm_class Vasub = plain
opm_class Vslide1up = slide_up
opm_class Vslide1down = plain
opm_class VmvXS = scalar_out
opm_class Vcpop = mask_count
opm_class Vfirst = mask_count
opm_class VmvSX = scalar_in
opm_class VzextVf4 = extension_by_four
opm_class VsextVf4 = extension_by_four
opm_class VzextVf2 = extension_by_two
opm_class VsextVf2 = extension_by_two
opm_class Vmsbf = mask_first
opm_class Vmsof = mask_first
opm_class Vmsif = mask_first
opm_class Viota = iota
opm_class Vid = index
opm_class Vcompress = compress
opm_class Vmandn = mask_logic
opm_class Vmand = mask_logic
opm_class Vmor = mask_logic
opm_class Vmxor = mask_logic
opm_class Vmorn = mask_logic
opm_class Vmnand = mask_logic
opm_class Vmnor = mask_logic
opm_class Vmxnor = mask_logic
opm_class Vdivu = plain
opm_class Vdiv = plain
opm_class Vremu = plain
opm_class Vrem = plain
opm_class Vmulhu = plain
opm_class Vmul = plain
opm_class Vmulhsu = plain
opm_class Vmulh = plain
opm_class Vmadd = plain
opm_class Vnmsub = plain
opm_class Vmacc = plain
opm_class Vnmsac = plain
opm_class Vwaddu = widening
opm_class Vwadd = widening
opm_class Vwsubu = widening
opm_class Vwsub = widening
opm_class VwadduW = wide_source
opm_class VwaddW = wide_source
opm_class VwsubuW = wide_source
opm_class VwsubW = wide_source
opm_class Vwmulu = widening
opm_class Vwmulsu = widening
opm_class Vwmul = widening
opm_class Vwmaccu = widening
opm_class Vwmacc = widening
opm_class Vwmaccus = widening
opm_class Vwmaccsu = widening

-- the class of each load and store
unfoldable pub memory_class : MemoryOp → Class
memory_class LoadUnitStride = load
memory_class LoadWholeRegister = whole_load
memory_class LoadMask = mask_load
memory_class LoadFaultOnlyFirst = load
memory_class LoadIndexedUnordered = indexed_load
memory_class LoadStrided = load
memory_class LoadIndexedOrdered = indexed_load
memory_class StoreUnitStride = store
memory_class StoreWholeRegister = whole_store
memory_class StoreMask = mask_store
memory_class StoreIndexedUnordered = indexed_store
memory_class StoreStrided = store
memory_class StoreIndexedOrdered = indexed_store

abbrev pub class_of : VOp → Class
class_of (Opi op) = opi_class op
class_of (Opm op) = opm_class op
class_of (Config op) = configuration
class_of (Memory op) = memory_class op

-- what stands in the place of a register: nothing; a mask; one register, or a group of registers, of elements of so many
-- bits; so many such groups; or so many whole registers
pub data Place : Type 0 where
  nothing : Place
  mask : Place
  register : ℕ → Place
  group : ℕ → Place
  groups : ℕ → ℕ → Place
  whole : ℕ → Place

-- the destination in vd, what a store takes from vs3, and the sources in vs2 and in vs1
pub record Row : Type 0 where
  pub vd : Place
  pub vs3 : Place
  pub vs2 : Place
  pub vs1 : Place

abbrev pub row : Place → Place → Place → Row
row vd vs2 vs1 = record { vd = vd; vs3 = nothing; vs2 = vs2; vs1 = vs1 }

abbrev pub store_row : Place → Place → Row
store_row vs3 vs2 = record { vd = nothing; vs3 = vs3; vs2 = vs2; vs1 = nothing }

-- the places of each class under a SEW: vd, vs2 and vs1; of stores vs3 and vs2
unfoldable pub row_of : Class → ℕ → VInstr → Row
row_of plain sew i = row (group sew) (group sew) (group sew)
row_of move sew i = row (group sew) nothing (group sew)
row_of widening sew i = row (group (2 * sew)) (group sew) (group sew)
row_of wide_source sew i = row (group (2 * sew)) (group (2 * sew)) (group sew)
row_of narrowing sew i = row (group sew) (group (2 * sew)) (group sew)
row_of extension_by_two sew i = row (group sew) (group (sew / 2)) nothing
row_of extension_by_four sew i = row (group sew) (group (sew / 4)) nothing
row_of compare sew i = row mask (group sew) (group sew)
row_of reduction sew i = row (register sew) (group sew) (register sew)
row_of widening_reduction sew i = row (register (2 * sew)) (group sew) (register (2 * sew))
row_of mask_logic sew i = row mask mask mask
row_of mask_count sew i = row nothing mask nothing
row_of mask_first sew i = row mask mask nothing
row_of iota sew i = row (group sew) mask nothing
row_of index sew i = row (group sew) nothing nothing
row_of compress sew i = row (group sew) (group sew) mask
row_of gather sew i = row (group sew) (group sew) (group sew)
row_of gather_sixteen sew i = row (group sew) (group sew) (group 16)
row_of slide_up sew i = row (group sew) (group sew) nothing
row_of scalar_in sew i = row (register sew) nothing nothing
row_of scalar_out sew i = row nothing (register sew) nothing
row_of whole_move sew i = row (whole (i.vs1 + 1)) (whole (i.vs1 + 1)) nothing
row_of configuration sew i = row nothing nothing nothing
row_of load sew i = row (groups i.nf i.eew) nothing nothing
row_of store sew i = store_row (groups i.nf i.eew) nothing
row_of indexed_load sew i = row (groups i.nf sew) (group i.eew) nothing
row_of indexed_store sew i = store_row (groups i.nf sew) (group i.eew)
row_of whole_load sew i = row (whole i.nf) nothing nothing
row_of whole_store sew i = store_row (whole i.nf) nothing
row_of mask_load sew i = row (register 8) nothing nothing
row_of mask_store sew i = store_row (register 8) nothing

-- the operand of a place that names this register
abbrev pub operand_at : Vtype → ℕ → Place → Option Operand
operand_at vt first nothing = None
operand_at vt first mask = Some (mask_at first)
operand_at vt first (register eew) = Some (register_at eew first)
operand_at vt first (group eew) = Some (groups_at vt 1 eew first)
operand_at vt first (groups fields eew) = Some (groups_at vt fields eew first)
operand_at vt first (whole count) = Some (whole_at count first)

-- the bits of an element in a place, where a bit of a mask is one and an empty place has none; and how many registers the
-- place takes
abbrev pub width_at : Vtype → Place → ℕ
width_at vt place = option_map_or (λ o. o.eew) (operand_at vt 0 place) 0

abbrev pub count_at : Vtype → Place → ℕ
count_at vt place = option_map_or (λ o. o.fields * group_registers o) (operand_at vt 0 place) 0

-- the place holds a mask
abbrev pub is_mask_place : Place → Bool
is_mask_place nothing = false
is_mask_place mask = true
is_mask_place (register eew) = false
is_mask_place (group eew) = false
is_mask_place (groups fields eew) = false
is_mask_place (whole count) = false

-- vs1 names a register in vector forms alone
abbrev pub in_form : Form → Place → Place
in_form V place = place
in_form X place = nothing
in_form I place = nothing

-- what an instruction writes
unfoldable pub destination_of : Class → VInstr → Vtype → Option Operand
destination_of class i vt = operand_at vt i.vd (row_of class vt.sew i).vd

-- what it reads, but for the mask: what stands in vs3, in vs2 and in vs1
unfoldable pub sources_of : Class → VInstr → Vtype → List (Option Operand)
sources_of class i vt =
    operand_at vt i.vd (row_of class vt.sew i).vs3
    ∷ operand_at vt i.vs2 (row_of class vt.sew i).vs2
    ∷ operand_at vt i.vs1 (in_form i.form (row_of class vt.sew i).vs1)
    ∷ []

-- how a destination may overlap a source: in any way, by the widths of their elements, or in no register
pub data Overlap : Type 0 where
  in_any_way : Overlap
  by_width : Overlap
  nowhere : Overlap

unfoldable pub overlap_of : Class → VInstr → Overlap
overlap_of reduction i = in_any_way
overlap_of widening_reduction i = in_any_way
overlap_of gather i = nowhere
overlap_of gather_sixteen i = nowhere
overlap_of slide_up i = nowhere
overlap_of compress i = nowhere
overlap_of iota i = nowhere
overlap_of mask_first i = nowhere
overlap_of indexed_load i = if nat_lt 1 i.nf then nowhere else by_width
overlap_of class i = by_width

-- the classes that may write v0 under a mask
unfoldable pub may_write_mask : Class → Bool
may_write_mask compare = true
may_write_mask reduction = true
may_write_mask widening_reduction = true
may_write_mask class = false

-- the classes that cannot go on at a later element
unfoldable pub starts_at_zero : Class → Bool
starts_at_zero reduction = true
starts_at_zero widening_reduction = true
starts_at_zero mask_count = true
starts_at_zero mask_first = true
starts_at_zero iota = true
starts_at_zero compress = true
starts_at_zero class = false

-- the classes that need no setting: those of configuration and of whole registers
unfoldable pub needs_no_setting : Class → Bool
needs_no_setting configuration = true
needs_no_setting whole_move = true
needs_no_setting whole_load = true
needs_no_setting whole_store = true
needs_no_setting class = false
