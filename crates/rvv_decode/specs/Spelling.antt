-- The word of an instruction.
use Rattle.std.specs.Prelude.{ℕ, ◌+◌, ◌*◌, ◌-◌, ◌^◌, ◌<◌, ◌≤◌}
use Rattle.std.specs.Int.{from_bool}
use Rattle.rvv_decode.specs.Layouts.{Layout, arithmetic, memory, immediate_type, both_immediate, both_registers}
use Rattle.rvv_decode.specs.Shapes.{op_v}
use Rattle.rvv_decode.specs.OpiRows.{opi_funct3}
use Rattle.rvv_decode.specs.OpmRows.{opm_funct3}
use Rattle.rvv_decode.specs.ConfigRows.{opcfg}
use Rattle.rvv_decode.specs.MemoryRows.{load_fp, store_fp, width_of}
use Rattle.rvv_decode.specs.declared.instruction.VInstr.{VInstr}
use Rattle.rvv_decode.specs.declared.instruction.VOp.{VOp}
use Rattle.rvv_decode.specs.declared.instruction.VOp.TheVariants.{Opi, Opm, Config, Memory}
use Rattle.rvv_decode.specs.declared.instruction.OpiOp.{OpiOp}
use Rattle.rvv_decode.specs.declared.instruction.OpiOp.TheVariants.{Vadd, Vsub, Vrsub, Vminu, Vmin, Vmaxu, Vmax, Vand, Vor, Vxor, Vrgather, Vrgatherei16, Vslideup, Vslidedown, Vadc, Vmadc, Vsbc, Vmsbc, Vmerge, VmvV, Vmseq, Vmsne, Vmsltu, Vmslt, Vmsleu, Vmsle, Vmsgtu, Vmsgt, Vsaddu, Vsadd, Vssubu, Vssub, Vsll, Vsmul, VmvWhole, Vsrl, Vsra, Vssrl, Vssra, Vnsrl, Vnsra, Vnclipu, Vnclip, Vwredsumu, Vwredsum}
use Rattle.rvv_decode.specs.declared.instruction.OpmOp.{OpmOp}
use Rattle.rvv_decode.specs.declared.instruction.OpmOp.TheVariants.{Vredsum, Vredand, Vredor, Vredxor, Vredminu, Vredmin, Vredmaxu, Vredmax, Vaaddu, Vaadd, Vasubu, Vasub, Vslide1up, Vslide1down, VmvXS, Vcpop, Vfirst, VmvSX, VzextVf4, VsextVf4, VzextVf2, VsextVf2, Vmsbf, Vmsof, Vmsif, Viota, Vid, Vcompress, Vmandn, Vmand, Vmor, Vmxor, Vmorn, Vmnand, Vmnor, Vmxnor, Vdivu, Vdiv, Vremu, Vrem, Vmulhu, Vmul, Vmulhsu, Vmulh, Vmadd, Vnmsub, Vmacc, Vnmsac, Vwaddu, Vwadd, Vwsubu, Vwsub, VwadduW, VwaddW, VwsubuW, VwsubW, Vwmulu, Vwmulsu, Vwmul, Vwmaccu, Vwmacc, Vwmaccus, Vwmaccsu}
use Rattle.rvv_decode.specs.declared.instruction.ConfigOp.{ConfigOp}
use Rattle.rvv_decode.specs.declared.instruction.ConfigOp.TheVariants.{Vsetvli, Vsetivli, Vsetvl}
use Rattle.rvv_decode.specs.declared.instruction.MemoryOp.{MemoryOp}
use Rattle.rvv_decode.specs.declared.instruction.MemoryOp.TheVariants.{LoadUnitStride, LoadWholeRegister, LoadMask, LoadFaultOnlyFirst, LoadIndexedUnordered, LoadStrided, LoadIndexedOrdered, StoreUnitStride, StoreWholeRegister, StoreMask, StoreIndexedUnordered, StoreStrided, StoreIndexedOrdered}

-- bits 31:26 of an arithmetic instruction
abbrev pub opi_funct6 : OpiOp → ℕ
opi_funct6 Vadd = 0b000000
opi_funct6 Vsub = 0b000010
opi_funct6 Vrsub = 0b000011
opi_funct6 Vminu = 0b000100
opi_funct6 Vmin = 0b000101
opi_funct6 Vmaxu = 0b000110
opi_funct6 Vmax = 0b000111
opi_funct6 Vand = 0b001001
opi_funct6 Vor = 0b001010
opi_funct6 Vxor = 0b001011
opi_funct6 Vrgather = 0b001100
opi_funct6 Vrgatherei16 = 0b001110
opi_funct6 Vslideup = 0b001110
opi_funct6 Vslidedown = 0b001111
opi_funct6 Vadc = 0b010000
opi_funct6 Vmadc = 0b010001
opi_funct6 Vsbc = 0b010010
opi_funct6 Vmsbc = 0b010011
opi_funct6 Vmerge = 0b010111
opi_funct6 VmvV = 0b010111
opi_funct6 Vmseq = 0b011000
opi_funct6 Vmsne = 0b011001
opi_funct6 Vmsltu = 0b011010
opi_funct6 Vmslt = 0b011011
opi_funct6 Vmsleu = 0b011100
opi_funct6 Vmsle = 0b011101
opi_funct6 Vmsgtu = 0b011110
opi_funct6 Vmsgt = 0b011111
opi_funct6 Vsaddu = 0b100000
opi_funct6 Vsadd = 0b100001
opi_funct6 Vssubu = 0b100010
opi_funct6 Vssub = 0b100011
opi_funct6 Vsll = 0b100101
opi_funct6 Vsmul = 0b100111
opi_funct6 VmvWhole = 0b100111
opi_funct6 Vsrl = 0b101000
opi_funct6 Vsra = 0b101001
opi_funct6 Vssrl = 0b101010
opi_funct6 Vssra = 0b101011
opi_funct6 Vnsrl = 0b101100
opi_funct6 Vnsra = 0b101101
opi_funct6 Vnclipu = 0b101110
opi_funct6 Vnclip = 0b101111
opi_funct6 Vwredsumu = 0b110000
opi_funct6 Vwredsum = 0b110001

abbrev pub opm_funct6 : OpmOp → ℕ
opm_funct6 Vredsum = 0b000000
opm_funct6 Vredand = 0b000001
opm_funct6 Vredor = 0b000010
opm_funct6 Vredxor = 0b000011
opm_funct6 Vredminu = 0b000100
opm_funct6 Vredmin = 0b000101
opm_funct6 Vredmaxu = 0b000110
opm_funct6 Vredmax = 0b000111
opm_funct6 Vaaddu = 0b001000
opm_funct6 Vaadd = 0b001001
opm_funct6 Vasubu = 0b001010
opm_funct6 Vasub = 0b001011
opm_funct6 Vslide1up = 0b001110
opm_funct6 Vslide1down = 0b001111
opm_funct6 VmvXS = 0b010000
opm_funct6 Vcpop = 0b010000
opm_funct6 Vfirst = 0b010000
opm_funct6 VmvSX = 0b010000
opm_funct6 VzextVf4 = 0b010010
opm_funct6 VsextVf4 = 0b010010
opm_funct6 VzextVf2 = 0b010010
opm_funct6 VsextVf2 = 0b010010
opm_funct6 Vmsbf = 0b010100
opm_funct6 Vmsof = 0b010100
opm_funct6 Vmsif = 0b010100
opm_funct6 Viota = 0b010100
opm_funct6 Vid = 0b010100
opm_funct6 Vcompress = 0b010111
opm_funct6 Vmandn = 0b011000
opm_funct6 Vmand = 0b011001
opm_funct6 Vmor = 0b011010
opm_funct6 Vmxor = 0b011011
opm_funct6 Vmorn = 0b011100
opm_funct6 Vmnand = 0b011101
opm_funct6 Vmnor = 0b011110
opm_funct6 Vmxnor = 0b011111
opm_funct6 Vdivu = 0b100000
opm_funct6 Vdiv = 0b100001
opm_funct6 Vremu = 0b100010
opm_funct6 Vrem = 0b100011
opm_funct6 Vmulhu = 0b100100
opm_funct6 Vmul = 0b100101
opm_funct6 Vmulhsu = 0b100110
opm_funct6 Vmulh = 0b100111
opm_funct6 Vmadd = 0b101001
opm_funct6 Vnmsub = 0b101011
opm_funct6 Vmacc = 0b101101
opm_funct6 Vnmsac = 0b101111
opm_funct6 Vwaddu = 0b110000
opm_funct6 Vwadd = 0b110001
opm_funct6 Vwsubu = 0b110010
opm_funct6 Vwsub = 0b110011
opm_funct6 VwadduW = 0b110100
opm_funct6 VwaddW = 0b110101
opm_funct6 VwsubuW = 0b110110
opm_funct6 VwsubW = 0b110111
opm_funct6 Vwmulu = 0b111000
opm_funct6 Vwmulsu = 0b111010
opm_funct6 Vwmul = 0b111011
opm_funct6 Vwmaccu = 0b111100
opm_funct6 Vwmacc = 0b111101
opm_funct6 Vwmaccus = 0b111110
opm_funct6 Vwmaccsu = 0b111111

-- the opcode of a load or store
abbrev pub memory_opcode : MemoryOp → ℕ
memory_opcode LoadUnitStride = load_fp
memory_opcode LoadWholeRegister = load_fp
memory_opcode LoadMask = load_fp
memory_opcode LoadFaultOnlyFirst = load_fp
memory_opcode LoadIndexedUnordered = load_fp
memory_opcode LoadStrided = load_fp
memory_opcode LoadIndexedOrdered = load_fp
memory_opcode StoreUnitStride = store_fp
memory_opcode StoreWholeRegister = store_fp
memory_opcode StoreMask = store_fp
memory_opcode StoreIndexedUnordered = store_fp
memory_opcode StoreStrided = store_fp
memory_opcode StoreIndexedOrdered = store_fp

-- the addressing mode of a load or store, bits 27:26
abbrev pub addressing_mode : MemoryOp → ℕ
addressing_mode LoadUnitStride = 0b00
addressing_mode LoadWholeRegister = 0b00
addressing_mode LoadMask = 0b00
addressing_mode LoadFaultOnlyFirst = 0b00
addressing_mode LoadIndexedUnordered = 0b01
addressing_mode LoadStrided = 0b10
addressing_mode LoadIndexedOrdered = 0b11
addressing_mode StoreUnitStride = 0b00
addressing_mode StoreWholeRegister = 0b00
addressing_mode StoreMask = 0b00
addressing_mode StoreIndexedUnordered = 0b01
addressing_mode StoreStrided = 0b10
addressing_mode StoreIndexedOrdered = 0b11

-- the bits that tell a configuration instruction from the others
abbrev pub config_bits : ConfigOp → ℕ
config_bits Vsetvli = 0
config_bits Vsetivli = 0b11 * 2 ^ 30
config_bits Vsetvl = 0b1000000 * 2 ^ 25

-- the bits that are fixed: those of arithmetic words with these values of funct3 and funct6, of memory words, of
-- configuration words
abbrev pub arithmetic_fixed : ℕ → ℕ → ℕ
arithmetic_fixed funct3 funct6 = op_v + funct3 * 2 ^ 12 + funct6 * 2 ^ 26

abbrev pub memory_fixed : MemoryOp → ℕ → ℕ
memory_fixed op eew = memory_opcode op + width_of eew * 2 ^ 12 + addressing_mode op * 2 ^ 26

abbrev pub config_fixed : ConfigOp → ℕ
config_fixed op = op_v + opcfg * 2 ^ 12 + config_bits op

-- the other bits, where the operands stand
abbrev pub placed : Layout → VInstr → ℕ
placed (arithmetic form) i = i.vd * 2 ^ 7 + i.vs1 * 2 ^ 15 + i.vs2 * 2 ^ 20 + from_bool i.vm * 2 ^ 25
placed (memory eew) i = i.vd * 2 ^ 7 + i.vs1 * 2 ^ 15 + i.vs2 * 2 ^ 20 + from_bool i.vm * 2 ^ 25 + (i.nf - 1) * 2 ^ 29
placed immediate_type i = i.vd * 2 ^ 7 + i.vs1 * 2 ^ 15 + i.zimm * 2 ^ 20
placed both_immediate i = i.vd * 2 ^ 7 + i.vs1 * 2 ^ 15 + i.zimm * 2 ^ 20
placed both_registers i = i.vd * 2 ^ 7 + i.vs1 * 2 ^ 15 + i.vs2 * 2 ^ 20

-- the layout that an instruction has
abbrev pub config_layout : ConfigOp → Layout
config_layout Vsetvli = immediate_type
config_layout Vsetivli = both_immediate
config_layout Vsetvl = both_registers

-- what a layout asks of the fields beside their ranges
abbrev pub FitsLayout : Layout → VInstr → Type 0
FitsLayout (memory eew) i = 1 ≤ i.nf
FitsLayout both_immediate i = i.zimm < 2 ^ 10
FitsLayout layout i = Unit {0}

-- the word of an instruction of this name, and what it asks of the fields
abbrev pub spelled : VOp → VInstr → ℕ
spelled (Opi op) i = arithmetic_fixed (opi_funct3 i.form) (opi_funct6 op) + placed (arithmetic i.form) i
spelled (Opm op) i = arithmetic_fixed (opm_funct3 i.form) (opm_funct6 op) + placed (arithmetic i.form) i
spelled (Config op) i = config_fixed op + placed (config_layout op) i
spelled (Memory op) i = memory_fixed op i.eew + placed (memory i.eew) i

abbrev pub FitsName : VOp → VInstr → Type 0
FitsName (Config op) i = FitsLayout (config_layout op) i
FitsName (Memory op) i = FitsLayout (memory i.eew) i
FitsName op i = Unit {0}
