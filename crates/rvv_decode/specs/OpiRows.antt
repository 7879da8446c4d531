-- The rows of the integer instructions of OPIVV, OPIVX and OPIVI words.
use Rattle.std.specs.Prelude.{ℕ, List, [], ◌∷◌, ◌++◌}
use Rattle.word_rows.specs.Rows.{Row}
use Rattle.rvv_decode.specs.Layouts.{Kind, arithmetic}
use Rattle.rvv_decode.specs.Shapes.{Fixed, opcode_is, funct3_is, vs1_is, vs2_is, vm_is, funct6_is, row, op_v, vxi, vx, xi, v_only, i_only}
use Rattle.rvv_decode.specs.declared.instruction.VOp.TheVariants.{Opi}
use Rattle.rvv_decode.specs.declared.instruction.OpiOp.{OpiOp}
use Rattle.rvv_decode.specs.declared.instruction.OpiOp.TheVariants.{Vadd, Vsub, Vrsub, Vminu, Vmin, Vmaxu, Vmax, Vand, Vor, Vxor, Vrgather, Vrgatherei16, Vslideup, Vslidedown, Vadc, Vmadc, Vsbc, Vmsbc, Vmerge, VmvV, Vmseq, Vmsne, Vmsltu, Vmslt, Vmsleu, Vmsle, Vmsgtu, Vmsgt, Vsaddu, Vsadd, Vssubu, Vssub, Vsll, Vsmul, VmvWhole, Vsrl, Vsra, Vssrl, Vssra, Vnsrl, Vnsra, Vnclipu, Vnclip, Vwredsumu, Vwredsum}
use Rattle.rvv_decode.specs.declared.instruction.Form.{Form}
use Rattle.rvv_decode.specs.declared.instruction.Form.TheVariants.{V, X, I}

-- bits 14:12 of a form: OPIVV, OPIVX, OPIVI
abbrev pub opi_funct3 : Form → ℕ
opi_funct3 V = 0b000
opi_funct3 X = 0b100
opi_funct3 I = 0b011

-- the rows of an instruction: bits 31:26, its forms, what else is fixed, its name
abbrev pub opi : ℕ → List Form → List Fixed → OpiOp → List (Row Kind)
opi f6 [] others name = []
opi f6 (form ∷ forms) others name =
    row (funct6_is f6 ∷ funct3_is (opi_funct3 form) ∷ opcode_is op_v ∷ others) (Opi name) (arithmetic form) ∷ opi f6 forms others name

unfoldable pub opi_rows : List (Row Kind)
opi_rows =
    opi 0b000000 vxi [] Vadd
    ++ opi 0b000010 vx [] Vsub
    ++ opi 0b000011 xi [] Vrsub
    ++ opi 0b000100 vx [] Vminu
    ++ opi 0b000101 vx [] Vmin
    ++ opi 0b000110 vx [] Vmaxu
    ++ opi 0b000111 vx [] Vmax
    ++ opi 0b001001 vxi [] Vand
    ++ opi 0b001010 vxi [] Vor
    ++ opi 0b001011 vxi [] Vxor
    ++ opi 0b001100 vxi [] Vrgather
    ++ opi 0b001110 v_only [] Vrgatherei16
    ++ opi 0b001110 xi [] Vslideup
    ++ opi 0b001111 xi [] Vslidedown
    ++ opi 0b010000 vxi (vm_is 0 ∷ []) Vadc
    ++ opi 0b010001 vxi [] Vmadc
    ++ opi 0b010010 vx (vm_is 0 ∷ []) Vsbc
    ++ opi 0b010011 vx [] Vmsbc
    ++ opi 0b010111 vxi (vm_is 0 ∷ []) Vmerge
    ++ opi 0b010111 vxi (vm_is 1 ∷ vs2_is 0 ∷ []) VmvV
    ++ opi 0b011000 vxi [] Vmseq
    ++ opi 0b011001 vxi [] Vmsne
    ++ opi 0b011010 vx [] Vmsltu
    ++ opi 0b011011 vx [] Vmslt
    ++ opi 0b011100 vxi [] Vmsleu
    ++ opi 0b011101 vxi [] Vmsle
    ++ opi 0b011110 xi [] Vmsgtu
    ++ opi 0b011111 xi [] Vmsgt
    ++ opi 0b100000 vxi [] Vsaddu
    ++ opi 0b100001 vxi [] Vsadd
    ++ opi 0b100010 vx [] Vssubu
    ++ opi 0b100011 vx [] Vssub
    ++ opi 0b100101 vxi [] Vsll
    ++ opi 0b100111 vx [] Vsmul
    ++ opi 0b100111 i_only (vm_is 1 ∷ vs1_is 0 ∷ []) VmvWhole
    ++ opi 0b100111 i_only (vm_is 1 ∷ vs1_is 1 ∷ []) VmvWhole
    ++ opi 0b100111 i_only (vm_is 1 ∷ vs1_is 3 ∷ []) VmvWhole
    ++ opi 0b100111 i_only (vm_is 1 ∷ vs1_is 7 ∷ []) VmvWhole
    ++ opi 0b101000 vxi [] Vsrl
    ++ opi 0b101001 vxi [] Vsra
    ++ opi 0b101010 vxi [] Vssrl
    ++ opi 0b101011 vxi [] Vssra
    ++ opi 0b101100 vxi [] Vnsrl
    ++ opi 0b101101 vxi [] Vnsra
    ++ opi 0b101110 vxi [] Vnclipu
    ++ opi 0b101111 vxi [] Vnclip
    ++ opi 0b110000 v_only [] Vwredsumu
    ++ opi 0b110001 v_only [] Vwredsum
