-- The rows of the multiply, divide, reduction, mask and widening instructions of OPMVV and OPMVX words.
use Rattle.std.specs.Prelude.{ℕ, List, [], ◌∷◌, ◌++◌}
use Rattle.word_rows.specs.Rows.{Row}
use Rattle.rvv_decode.specs.Layouts.{Kind, arithmetic}
use Rattle.rvv_decode.specs.Shapes.{Fixed, opcode_is, funct3_is, vs1_is, vs2_is, vm_is, funct6_is, row, op_v, vx, v_only, x_only}
use Rattle.rvv_decode.specs.declared.instruction.VOp.TheVariants.{Opm}
use Rattle.rvv_decode.specs.declared.instruction.OpmOp.{OpmOp}
use Rattle.rvv_decode.specs.declared.instruction.OpmOp.TheVariants.{Vredsum, Vredand, Vredor, Vredxor, Vredminu, Vredmin, Vredmaxu, Vredmax, Vaaddu, Vaadd, Vasubu, Vasub, Vslide1up, Vslide1down, VmvXS, Vcpop, Vfirst, VmvSX, VzextVf4, VsextVf4, VzextVf2, VsextVf2, Vmsbf, Vmsof, Vmsif, Viota, Vid, Vcompress, Vmandn, Vmand, Vmor, Vmxor, Vmorn, Vmnand, Vmnor, Vmxnor, Vdivu, Vdiv, Vremu, Vrem, Vmulhu, Vmul, Vmulhsu, Vmulh, Vmadd, Vnmsub, Vmacc, Vnmsac, Vwaddu, Vwadd, Vwsubu, Vwsub, VwadduW, VwaddW, VwsubuW, VwsubW, Vwmulu, Vwmulsu, Vwmul, Vwmaccu, Vwmacc, Vwmaccus, Vwmaccsu}
use Rattle.rvv_decode.specs.declared.instruction.Form.{Form}
use Rattle.rvv_decode.specs.declared.instruction.Form.TheVariants.{V, X, I}

-- bits 14:12 of a form: OPMVV, OPMVX; no instruction here has an immediate
abbrev pub opm_funct3 : Form → ℕ
opm_funct3 V = 0b010
opm_funct3 X = 0b110
opm_funct3 I = 0b010

-- the rows of an instruction: bits 31:26, its forms, what else is fixed, its name
abbrev pub opm : ℕ → List Form → List Fixed → OpmOp → List (Row Kind)
opm f6 [] others name = []
opm f6 (form ∷ forms) others name =
    row (funct6_is f6 ∷ funct3_is (opm_funct3 form) ∷ opcode_is op_v ∷ others) (Opm name) (arithmetic form) ∷ opm f6 forms others name

unfoldable pub opm_rows : List (Row Kind)
opm_rows =
    opm 0b000000 v_only [] Vredsum
    ++ opm 0b000001 v_only [] Vredand
    ++ opm 0b000010 v_only [] Vredor
    ++ opm 0b000011 v_only [] Vredxor
    ++ opm 0b000100 v_only [] Vredminu
    ++ opm 0b000101 v_only [] Vredmin
    ++ opm 0b000110 v_only [] Vredmaxu
    ++ opm 0b000111 v_only [] Vredmax
    ++ opm 0b001000 vx [] Vaaddu
    ++ opm 0b001001 vx [] Vaadd
    ++ opm 0b001010 vx [] Vasubu
    ++ opm 0b001011 vx [] Vasub
    ++ opm 0b001110 x_only [] Vslide1up
    ++ opm 0b001111 x_only [] Vslide1down
    ++ opm 0b010000 v_only (vm_is 1 ∷ vs1_is 0b00000 ∷ []) VmvXS
    ++ opm 0b010000 v_only (vs1_is 0b10000 ∷ []) Vcpop
    ++ opm 0b010000 v_only (vs1_is 0b10001 ∷ []) Vfirst
    ++ opm 0b010000 x_only (vm_is 1 ∷ vs2_is 0 ∷ []) VmvSX
    ++ opm 0b010010 v_only (vs1_is 0b00100 ∷ []) VzextVf4
    ++ opm 0b010010 v_only (vs1_is 0b00101 ∷ []) VsextVf4
    ++ opm 0b010010 v_only (vs1_is 0b00110 ∷ []) VzextVf2
    ++ opm 0b010010 v_only (vs1_is 0b00111 ∷ []) VsextVf2
    ++ opm 0b010100 v_only (vs1_is 0b00001 ∷ []) Vmsbf
    ++ opm 0b010100 v_only (vs1_is 0b00010 ∷ []) Vmsof
    ++ opm 0b010100 v_only (vs1_is 0b00011 ∷ []) Vmsif
    ++ opm 0b010100 v_only (vs1_is 0b10000 ∷ []) Viota
    ++ opm 0b010100 v_only (vs2_is 0 ∷ vs1_is 0b10001 ∷ []) Vid
    ++ opm 0b010111 v_only (vm_is 1 ∷ []) Vcompress
    ++ opm 0b011000 v_only (vm_is 1 ∷ []) Vmandn
    ++ opm 0b011001 v_only (vm_is 1 ∷ []) Vmand
    ++ opm 0b011010 v_only (vm_is 1 ∷ []) Vmor
    ++ opm 0b011011 v_only (vm_is 1 ∷ []) Vmxor
    ++ opm 0b011100 v_only (vm_is 1 ∷ []) Vmorn
    ++ opm 0b011101 v_only (vm_is 1 ∷ []) Vmnand
    ++ opm 0b011110 v_only (vm_is 1 ∷ []) Vmnor
    ++ opm 0b011111 v_only (vm_is 1 ∷ []) Vmxnor
    ++ opm 0b100000 vx [] Vdivu
    ++ opm 0b100001 vx [] Vdiv
    ++ opm 0b100010 vx [] Vremu
    ++ opm 0b100011 vx [] Vrem
    ++ opm 0b100100 vx [] Vmulhu
    ++ opm 0b100101 vx [] Vmul
    ++ opm 0b100110 vx [] Vmulhsu
    ++ opm 0b100111 vx [] Vmulh
    ++ opm 0b101001 vx [] Vmadd
    ++ opm 0b101011 vx [] Vnmsub
    ++ opm 0b101101 vx [] Vmacc
    ++ opm 0b101111 vx [] Vnmsac
    ++ opm 0b110000 vx [] Vwaddu
    ++ opm 0b110001 vx [] Vwadd
    ++ opm 0b110010 vx [] Vwsubu
    ++ opm 0b110011 vx [] Vwsub
    ++ opm 0b110100 vx [] VwadduW
    ++ opm 0b110101 vx [] VwaddW
    ++ opm 0b110110 vx [] VwsubuW
    ++ opm 0b110111 vx [] VwsubW
    ++ opm 0b111000 vx [] Vwmulu
    ++ opm 0b111010 vx [] Vwmulsu
    ++ opm 0b111011 vx [] Vwmul
    ++ opm 0b111100 vx [] Vwmaccu
    ++ opm 0b111101 vx [] Vwmacc
    ++ opm 0b111110 x_only [] Vwmaccus
    ++ opm 0b111111 vx [] Vwmaccsu
