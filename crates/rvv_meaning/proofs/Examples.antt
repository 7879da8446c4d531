-- Instructions worked out by hand, on registers of four bytes. The four elements of the first one stand in the four places.
use Rattle.std.proofs.Common.{◌≡◌, ℕ, true, false, List, [], ◌∷◌, replicate, Some, refl}
use Rattle.std.specs.Option.{option_map}
use Rattle.bit_laws.specs.Lists.{tabulate}
use Rattle.element_ops.specs.Elements.{element_of, with_elements, with_mask, with_bytes}
use Rattle.rvv_decode.specs.declared.instruction.VInstr.{VInstr}
use Rattle.rvv_decode.specs.declared.instruction.VOp.TheVariants.{Opi}
use Rattle.rvv_decode.specs.declared.instruction.OpiOp.TheVariants.{Vadc, Vmslt, Vxor}
use Rattle.rvv_decode.specs.declared.instruction.Form.TheVariants.{V, X}
use Rattle.vtype_cfg.specs.declared.configuration.Cfg.{Cfg}
use Rattle.vtype_cfg.specs.declared.configuration.Policy.{Policy}
use Rattle.vtype_cfg.specs.declared.configuration.Policy.TheVariants.{Keep, Ones}
use Rattle.vtype_cfg.specs.Classes.{opi_class, row_of}
use Rattle.rvv_meaning.specs.Elementwise.{registers_after, registers_by, element_after}
use Rattle.rvv_meaning.specs.Operations.{operation_for, elements_at, on_elements}

-- vxor.vv v4, v2, v1, v0.t
masked_xor : VInstr
masked_xor = record { op = Opi Vxor; form = V; vd = 4; vs1 = 1; vs2 = 2; vm = false; nf = 0; eew = 0; zimm = 0 }

-- vadc.vvm v4, v2, v1, v0
sum_with_carry : VInstr
sum_with_carry = record { op = Opi Vadc; form = V; vd = 4; vs1 = 1; vs2 = 2; vm = false; nf = 0; eew = 0; zimm = 0 }

-- vmslt.vx v0, v2, x5, v0.t
masked_less : VInstr
masked_less = record { op = Opi Vmslt; form = X; vd = 0; vs1 = 5; vs2 = 2; vm = false; nf = 0; eew = 0; zimm = 0 }

-- e8, m1, ta, ma; the elements from vstart on and below 3
setting : Policy → (vstart : ℕ) → Cfg
setting policy vstart = record { vtype = record { vill = false; vta = true; vma = true; sew = 8; lmul8 = 8 }; vl = 3; vstart = vstart; vxrm = 0; vlen = 32; policy = policy }

-- v0; v1, v2, v3; v4; and the rest
registers_with : (mask destination : List ℕ) → List (List ℕ)
registers_with mask destination =
    mask
    ∷ (0x0f ∷ 0x0f ∷ 0x0f ∷ 0x0f ∷ [])
    ∷ (0x31 ∷ 0x32 ∷ 0x33 ∷ 0x34 ∷ [])
    ∷ (0 ∷ 0 ∷ 0 ∷ 0 ∷ [])
    ∷ destination
    ∷ replicate 27 (9 ∷ 9 ∷ 9 ∷ 9 ∷ [])

-- of v0 bits 2 and 0 are 1
registers : (destination : List ℕ) → List (List ℕ)
registers destination = registers_with (0b101 ∷ 0 ∷ 0 ∷ 0 ∷ []) destination

-- prestart, masked off, active, tail
kept : option_map (λ i. registers_after (setting Keep 1) i (registers (1 ∷ 2 ∷ 3 ∷ 4 ∷ []))) (option_map (on_elements masked_xor (setting Keep 1) 0) (operation_for (Opi Vxor))) ≡ Some (registers (1 ∷ 2 ∷ 0x3c ∷ 4 ∷ []))
unfolding masked_xor setting registers registers_with operation_for elements_at opi_class row_of registers_by element_after element_of with_elements with_bytes tabulate
kept = refl

made_ones : option_map (λ i. registers_after (setting Ones 1) i (registers (1 ∷ 2 ∷ 3 ∷ 4 ∷ []))) (option_map (on_elements masked_xor (setting Ones 1) 0) (operation_for (Opi Vxor))) ≡ Some (registers (1 ∷ 0xff ∷ 0x3c ∷ 0xff ∷ []))
unfolding masked_xor setting registers registers_with operation_for elements_at opi_class row_of registers_by element_after element_of with_elements with_bytes tabulate
made_ones = refl

-- prestart; active without a carry and with one; tail
carried : option_map (λ i. registers_after (setting Keep 1) i (registers (1 ∷ 2 ∷ 3 ∷ 4 ∷ []))) (option_map (on_elements sum_with_carry (setting Keep 1) 0) (operation_for (Opi Vadc))) ≡ Some (registers (1 ∷ 0x41 ∷ 0x43 ∷ 4 ∷ []))
unfolding sum_with_carry setting registers registers_with operation_for elements_at opi_class row_of registers_by element_after element_of with_elements with_bytes tabulate
carried = refl

-- active and true, masked off, active and false; the tail has the other bits of v0, whatever vl is
compared : option_map (λ i. registers_after (setting Ones 0) i (registers (1 ∷ 2 ∷ 3 ∷ 4 ∷ []))) (option_map (on_elements masked_less (setting Ones 0) 0x32) (operation_for (Opi Vmslt)))
    ≡ Some (registers_with (0b11111011 ∷ 0xff ∷ 0xff ∷ 0xff ∷ []) (1 ∷ 2 ∷ 3 ∷ 4 ∷ []))
unfolding masked_less setting registers registers_with operation_for elements_at opi_class row_of registers_by element_after element_of with_mask with_bytes tabulate
compared = refl
