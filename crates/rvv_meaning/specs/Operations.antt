-- Operations whose elements are computed from elements at the same place: their values and their operands (vector extension
-- 1.0, sections 10.1, 11 and 12).
use Rattle.std.specs.Prelude.{ℕ, ◌+◌, ◌-◌, ◌*◌, ◌/◌, ◌%◌, ◌^◌, Bool, true, false, cond, not, ◌&&◌, eqb, ℤ, pos, ◌+ℤ◌, ◌-ℤ◌, ◌*ℤ◌, int_lt, int_le, int_div, int_rem, bit_and, bit_or, bit_xor, List, Option, None, Some}
use Rattle.std.specs.Int.{from_bool, int_shr, int_div_euclid}
use lib.Dec.{ltb, leb}
use Rattle.bit_laws.specs.Numbers.{low}
use Rattle.bit_laws.specs.Rounding.{low_int, rounded, clipped, clips, clipped_unsigned, clips_unsigned}
use Rattle.bit_laws.specs.Signed.{signed, extended}
use Rattle.element_ops.specs.Elements.{element_of, mask_bit_of}
use Rattle.rvv_decode.specs.declared.instruction.VInstr.{VInstr}
use Rattle.rvv_decode.specs.declared.instruction.VOp.{VOp}
use Rattle.rvv_decode.specs.declared.instruction.VOp.TheVariants.{Opi, Opm}
use Rattle.rvv_decode.specs.declared.instruction.Form.{Form}
use Rattle.rvv_decode.specs.declared.instruction.Form.TheVariants.{V, X, I}
use Rattle.rvv_decode.specs.declared.instruction.OpiOp.TheVariants.{Vadd, Vsub, Vrsub, Vadc, Vsbc, Vmadc, Vmsbc, Vand, Vor, Vxor, Vsll, Vsrl, Vsra, Vmseq, Vmsne, Vmsltu, Vmslt, Vmsleu, Vmsle, Vmsgtu, Vmsgt, Vminu, Vmin, Vmaxu, Vmax, Vmerge, VmvV, Vnsrl, Vnsra, Vnclipu, Vnclip, Vsaddu, Vsadd, Vssubu, Vssub, Vsmul, Vssrl, Vssra}
use Rattle.rvv_decode.specs.declared.instruction.OpmOp.TheVariants.{VzextVf2, VzextVf4, VsextVf2, VsextVf4, Vwaddu, Vwadd, Vwsubu, Vwsub, VwadduW, VwaddW, VwsubuW, VwsubW, Vwmulu, Vwmulsu, Vwmul, Vwmaccu, Vwmacc, Vwmaccus, Vwmaccsu, Vdivu, Vdiv, Vremu, Vrem, Vmulhu, Vmul, Vmulhsu, Vmulh, Vmadd, Vnmsub, Vmacc, Vnmsac, Vaaddu, Vaadd, Vasubu, Vasub}
use Rattle.vtype_cfg.specs.declared.configuration.Cfg.{Cfg}
use Rattle.vtype_cfg.specs.Classes.{Row, class_of, row_of, width_at, count_at, is_mask_place}
use Rattle.rvv_meaning.specs.Elementwise.{Elementwise, size_of}

-- ---- values

-- Each takes w, the width of an element in bits, and then the operands that it reads: a, the element of vs2, and b, the
-- element of vs1, the scalar or the immediate, all below 2^w; where the destination is an operand, its element d as it was;
-- and where the mask is one, the element's mask bit m. A value may be 2^w or more: what writes it takes it at w bits. That
-- of a comparison or of a carry out is a bit of a mask.

-- the sum (section 11.1)
abbrev pub vadd : (w a b : ℕ) → ℕ
vadd w a b = a + b

-- the difference, modulo 2^w (section 11.1)
abbrev pub vsub : (w a b : ℕ) → ℕ
vsub w a b = a + (2 ^ w - b)

-- the reverse difference, modulo 2^w (section 11.1)
abbrev pub vrsub : (w a b : ℕ) → ℕ
vrsub w a b = b + (2 ^ w - a)

-- the sum with a carry in (section 11.4)
abbrev pub vadc : (w a b : ℕ) → Bool → ℕ
vadc w a b m = a + b + from_bool m

-- the difference with a borrow in, modulo 2^w (section 11.4)
abbrev pub vsbc : (w a b : ℕ) → Bool → ℕ
vsbc w a b m = a + (2 ^ w - (b + from_bool m))

-- the carry out of the sum (section 11.4)
abbrev pub vmadc : (w a b : ℕ) → Bool → ℕ
vmadc w a b m = from_bool (leb (2 ^ w) (a + b + from_bool m))

-- the borrow out of the difference (section 11.4)
abbrev pub vmsbc : (w a b : ℕ) → Bool → ℕ
vmsbc w a b m = from_bool (ltb a (b + from_bool m))

-- bitwise and (section 11.5)
abbrev pub vand : (w a b : ℕ) → ℕ
vand w a b = bit_and a b

-- bitwise or (section 11.5)
abbrev pub vor : (w a b : ℕ) → ℕ
vor w a b = bit_or a b

-- bitwise exclusive or (section 11.5)
abbrev pub vxor : (w a b : ℕ) → ℕ
vxor w a b = bit_xor a b

-- the logarithm of the width of an element, to the base 2
abbrev pub log2 : (w : ℕ) → ℕ
log2 w = cond (eqb w 8) 3 (cond (eqb w 16) 4 5)

-- shifts by the low bits of b, as many as the logarithm of the width (section 11.6): to the left; to the right, with zeros
-- coming in; and to the right, with the sign coming in
abbrev pub vsll : (w a b : ℕ) → ℕ
vsll w a b = a * 2 ^ low (log2 w) b

abbrev pub vsrl : (w a b : ℕ) → ℕ
vsrl w a b = a / 2 ^ low (log2 w) b

abbrev pub vsra : (w a b : ℕ) → ℕ
vsra w a b = low_int w (int_shr (signed w a) (low (log2 w) b))

-- shifts to the right of an a that is twice as wide, by the low bits of b, as many as the logarithm of that width (section
-- 11.7): with zeros coming in, and with the sign coming in
abbrev pub vnsrl : (w a b : ℕ) → ℕ
vnsrl w a b = vsrl (2 * w) a b

abbrev pub vnsra : (w a b : ℕ) → ℕ
vnsra w a b = vsra (2 * w) a b

-- an operand that is extended already (section 11.3)
abbrev pub vext : (w a b : ℕ) → ℕ
vext w a b = a

-- whether they are equal (section 11.8)
abbrev pub vmseq : (w a b : ℕ) → ℕ
vmseq w a b = from_bool (eqb a b)

-- whether they differ (section 11.8)
abbrev pub vmsne : (w a b : ℕ) → ℕ
vmsne w a b = from_bool (not (eqb a b))

-- whether a is less, without signs (section 11.8)
abbrev pub vmsltu : (w a b : ℕ) → ℕ
vmsltu w a b = from_bool (ltb a b)

-- whether a is less, with signs (section 11.8)
abbrev pub vmslt : (w a b : ℕ) → ℕ
vmslt w a b = from_bool (int_lt (signed w a) (signed w b))

-- whether a is less or equal, without signs (section 11.8)
abbrev pub vmsleu : (w a b : ℕ) → ℕ
vmsleu w a b = from_bool (leb a b)

-- whether a is less or equal, with signs (section 11.8)
abbrev pub vmsle : (w a b : ℕ) → ℕ
vmsle w a b = from_bool (int_le (signed w a) (signed w b))

-- whether a is greater, without signs (section 11.8)
abbrev pub vmsgtu : (w a b : ℕ) → ℕ
vmsgtu w a b = from_bool (ltb b a)

-- whether a is greater, with signs (section 11.8)
abbrev pub vmsgt : (w a b : ℕ) → ℕ
vmsgt w a b = from_bool (int_lt (signed w b) (signed w a))

-- the lesser, without signs (section 11.9)
abbrev pub vminu : (w a b : ℕ) → ℕ
vminu w a b = cond (ltb a b) a b

-- the lesser, with signs (section 11.9)
abbrev pub vmin : (w a b : ℕ) → ℕ
vmin w a b = cond (int_lt (signed w a) (signed w b)) a b

-- the greater, without signs (section 11.9)
abbrev pub vmaxu : (w a b : ℕ) → ℕ
vmaxu w a b = cond (ltb a b) b a

-- the greater, with signs (section 11.9)
abbrev pub vmax : (w a b : ℕ) → ℕ
vmax w a b = cond (int_lt (signed w a) (signed w b)) b a

-- the high half of a product with a sign, rounded down, modulo 2^w
abbrev pub high_half : (w : ℕ) → ℤ → ℕ
high_half w product = low_int w (int_div_euclid product (pos (2 ^ w)))

-- the product (section 11.10)
abbrev pub vmul : (w a b : ℕ) → ℕ
vmul w a b = a * b

-- its high half, without signs (section 11.10)
abbrev pub vmulhu : (w a b : ℕ) → ℕ
vmulhu w a b = a * b / 2 ^ w

-- its high half, with signs (section 11.10)
abbrev pub vmulh : (w a b : ℕ) → ℕ
vmulh w a b = high_half w (signed w a *ℤ signed w b)

-- its high half, of an a with a sign and a b without one (section 11.10)
abbrev pub vmulhsu : (w a b : ℕ) → ℕ
vmulhsu w a b = high_half w (signed w a *ℤ pos b)

-- the quotient, without signs; by 0 it is all ones (section 11.11)
abbrev pub vdivu : (w a b : ℕ) → ℕ
vdivu w a b = cond (eqb b 0) (2 ^ w - 1) (a / b)

-- the quotient with signs, rounded towards zero; by 0 it is all ones, and the least number by -1 is that number modulo 2^w
-- (section 11.11)
abbrev pub vdiv : (w a b : ℕ) → ℕ
vdiv w a b = cond (eqb b 0) (2 ^ w - 1) (low_int w (int_div (signed w a) (signed w b)))

-- the remainder, without signs; by 0 it is a (section 11.11)
abbrev pub vremu : (w a b : ℕ) → ℕ
vremu w a b = cond (eqb b 0) a (a % b)

-- the remainder with signs, which has the sign of a; by 0 it is a, and that of the least number by -1 is 0 (section 11.11)
abbrev pub vrem : (w a b : ℕ) → ℕ
vrem w a b = cond (eqb b 0) a (low_int w (int_rem (signed w a) (signed w b)))

-- the product of b and a added to d, and taken from d, modulo 2^w (section 11.13)
abbrev pub vmacc : (w a b d : ℕ) → ℕ
vmacc w a b d = b * a + d

abbrev pub vnmsac : (w a b d : ℕ) → ℕ
vnmsac w a b d = d + (2 ^ w - low w (b * a))

-- the product of b and d added to a, and taken from a, modulo 2^w (section 11.13)
abbrev pub vmadd : (w a b d : ℕ) → ℕ
vmadd w a b d = b * d + a

abbrev pub vnmsub : (w a b d : ℕ) → ℕ
vnmsub w a b d = a + (2 ^ w - low w (b * d))

-- one of the two by the mask bit (section 11.15)
abbrev pub vmerge : (w a b : ℕ) → Bool → ℕ
vmerge w a b m = cond m b a

-- a copy (section 11.16)
abbrev pub vmv : (w a b : ℕ) → ℕ
vmv w a b = b

-- ---- values in fixed point

-- Each of these takes besides, after w, the rounding mode; and beside a value that is clipped stands whether it was.

-- the sum, clipped, without signs and with signs (section 12.1)
abbrev pub vsaddu : (w mode a b : ℕ) → ℕ
vsaddu w mode a b = low_int w (clipped_unsigned w (pos a +ℤ pos b))

abbrev pub vsaddu_clips : (w mode a b : ℕ) → Bool
vsaddu_clips w mode a b = clips_unsigned w (pos a +ℤ pos b)

abbrev pub vsadd : (w mode a b : ℕ) → ℕ
vsadd w mode a b = low_int w (clipped w (signed w a +ℤ signed w b))

abbrev pub vsadd_clips : (w mode a b : ℕ) → Bool
vsadd_clips w mode a b = clips w (signed w a +ℤ signed w b)

-- the difference, clipped, without signs and with signs (section 12.1)
abbrev pub vssubu : (w mode a b : ℕ) → ℕ
vssubu w mode a b = low_int w (clipped_unsigned w (pos a -ℤ pos b))

abbrev pub vssubu_clips : (w mode a b : ℕ) → Bool
vssubu_clips w mode a b = clips_unsigned w (pos a -ℤ pos b)

abbrev pub vssub : (w mode a b : ℕ) → ℕ
vssub w mode a b = low_int w (clipped w (signed w a -ℤ signed w b))

abbrev pub vssub_clips : (w mode a b : ℕ) → Bool
vssub_clips w mode a b = clips w (signed w a -ℤ signed w b)

-- half of the sum, rounded, without signs and with signs (section 12.2)
abbrev pub vaaddu : (w mode a b : ℕ) → ℕ
vaaddu w mode a b = low_int w (rounded mode (pos a +ℤ pos b) 1)

abbrev pub vaadd : (w mode a b : ℕ) → ℕ
vaadd w mode a b = low_int w (rounded mode (signed w a +ℤ signed w b) 1)

-- half of the difference, rounded, modulo 2^w, without signs and with signs (section 12.2)
abbrev pub vasubu : (w mode a b : ℕ) → ℕ
vasubu w mode a b = low_int w (rounded mode (pos a -ℤ pos b) 1)

abbrev pub vasub : (w mode a b : ℕ) → ℕ
vasub w mode a b = low_int w (rounded mode (signed w a -ℤ signed w b) 1)

-- the product over 2^(w - 1), rounded and clipped (section 12.3)
abbrev pub vsmul : (w mode a b : ℕ) → ℕ
vsmul w mode a b = low_int w (clipped w (rounded mode (signed w a *ℤ signed w b) (w - 1)))

abbrev pub vsmul_clips : (w mode a b : ℕ) → Bool
vsmul_clips w mode a b = clips w (rounded mode (signed w a *ℤ signed w b) (w - 1))

-- shifts to the right that round, by the low bits of b, as many as the logarithm of the width: with zeros coming in, and with
-- the sign coming in (section 12.4)
abbrev pub vssrl : (w mode a b : ℕ) → ℕ
vssrl w mode a b = low_int w (rounded mode (pos a) (low (log2 w) b))

abbrev pub vssra : (w mode a b : ℕ) → ℕ
vssra w mode a b = low_int w (rounded mode (signed w a) (low (log2 w) b))

-- shifts to the right of an a that is twice as wide, by the low bits of b, as many as the logarithm of that width, rounded and
-- then clipped, without signs and with signs (section 12.5)
abbrev pub vnclipu : (w mode a b : ℕ) → ℕ
vnclipu w mode a b = low_int w (clipped_unsigned w (rounded mode (pos a) (low (log2 (2 * w)) b)))

abbrev pub vnclipu_clips : (w mode a b : ℕ) → Bool
vnclipu_clips w mode a b = clips_unsigned w (rounded mode (pos a) (low (log2 (2 * w)) b))

abbrev pub vnclip : (w mode a b : ℕ) → ℕ
vnclip w mode a b = low_int w (clipped w (rounded mode (signed (2 * w) a) (low (log2 (2 * w)) b)))

abbrev pub vnclip_clips : (w mode a b : ℕ) → Bool
vnclip_clips w mode a b = clips w (rounded mode (signed (2 * w) a) (low (log2 (2 * w)) b))

-- ---- operations

-- an immediate has this many bits
abbrev pub immediate_bits : ℕ
immediate_bits = 5

-- What an operation computes, and how it takes its operands. The widths of the elements are those of the instruction's class:
-- an element that is narrower than the value is extended, by its sign or by zeros.
pub record Operation : Type 0 where
  -- whether elements of vs2, and those in the place of vs1, are extended by their sign
  pub signed_a : Bool
  pub signed_b : Bool
  -- whether an immediate has a sign
  pub signed_immediate : Bool
  -- whether the mask is an operand, where vm is 0, and so leaves no element out
  pub takes_mask : Bool
  -- whether the element of the destination is an operand
  pub takes_old : Bool
  -- the value of an element, and whether it was clipped: from its width, the rounding mode, the element a of vs2, b in the
  -- place of vs1, d of the destination, and its mask bit
  pub value : (w mode a b d : ℕ) → Bool → ℕ
  pub clips : (w mode a b d : ℕ) → Bool → Bool

-- an operation on two operands, whose immediate has a sign
abbrev pub of_two : ((w a b : ℕ) → ℕ) → Operation
of_two value = record {
  signed_a = false;
  signed_b = false;
  signed_immediate = true;
  takes_mask = false;
  takes_old = false;
  value = λ w mode a b d m. value w a b;
  clips = λ w mode a b d m. false;
}

-- an operation on two operands, whose immediate has no sign
abbrev pub unsigned_immediate : ((w a b : ℕ) → ℕ) → Operation
unsigned_immediate value = record (of_two value) { signed_immediate = false }

-- the same, where narrower operands are extended by their sign
abbrev pub on_signed : Operation → Operation
on_signed o = record o { signed_a = true; signed_b = true }

-- the same, where elements of vs2 alone are extended by their sign, and where those in the place of vs1 alone are
abbrev pub on_signed_a : Operation → Operation
on_signed_a o = record o { signed_a = true }

abbrev pub on_signed_b : Operation → Operation
on_signed_b o = record o { signed_b = true }

-- an operation on two operands and the mask bit
abbrev pub of_two_and_mask : ((w a b : ℕ) → Bool → ℕ) → Operation
of_two_and_mask value = record (of_two (λ w a b. 0)) { takes_mask = true; value = λ w mode a b d m. value w a b m }

-- an operation on these and the element of the destination
abbrev pub of_three : ((w a b d : ℕ) → ℕ) → Operation
of_three value = record (of_two (λ w a b. 0)) { takes_old = true; value = λ w mode a b d m. value w a b d }

-- an operation on two operands that rounds, whose immediate has a sign
abbrev pub of_rounding : ((w mode a b : ℕ) → ℕ) → Operation
of_rounding value = record (of_two (λ w a b. 0)) { value = λ w mode a b d m. value w mode a b }

-- the same, and it clips its results
abbrev pub of_clipping : ((w mode a b : ℕ) → ℕ) → ((w mode a b : ℕ) → Bool) → Operation
of_clipping value clipped = record (of_rounding value) { clips = λ w mode a b d m. clipped w mode a b }

-- the same where an immediate has no sign
abbrev pub without_sign : Operation → Operation
without_sign o = record o { signed_immediate = false }

-- the mask is an operand of the instruction
abbrev pub reads_mask : VInstr → Operation → Bool
reads_mask i o = o.takes_mask && not i.vm

-- the mask leaves elements out
abbrev pub is_masked : VInstr → Operation → Bool
is_masked i o = not o.takes_mask && not i.vm

-- an instruction with this operation, whose registers hold elements as the places of a row say
module _ (i : VInstr) (c : Cfg) (scalar : ℕ) (at : Row) (o : Operation) where
  -- The bits of a value: those of an element of the destination. A bit of a mask is a truth of elements of SEW bits.
  abbrev pub value_width : ℕ
  value_width = cond (is_mask_place at.vd) c.vtype.sew (width_at c.vtype at.vd)

  -- an element of the group that vs2 names
  abbrev pub operand_a : List (List ℕ) → ℕ → ℕ
  operand_a v e = extended o.signed_a (width_at c.vtype at.vs2) value_width (element_of (size_of c) v i.vs2 (width_at c.vtype at.vs2) e)

  -- what the place of vs1 names in each form: an element, the scalar cut to the width of one, or the immediate
  abbrev pub second_operand : Form → List (List ℕ) → ℕ → ℕ
  second_operand V v e = extended o.signed_b (width_at c.vtype at.vs1) value_width (element_of (size_of c) v i.vs1 (width_at c.vtype at.vs1) e)
  second_operand X v e = extended o.signed_b (width_at c.vtype at.vs1) value_width (low (width_at c.vtype at.vs1) scalar)
  second_operand I v e = extended o.signed_immediate immediate_bits value_width i.vs1

  abbrev pub operand_b : List (List ℕ) → ℕ → ℕ
  operand_b v e = second_operand i.form v e

  -- the element of the destination as it was, where it is an operand
  abbrev pub operand_d : List (List ℕ) → ℕ → ℕ
  operand_d v e = cond o.takes_old (element_of (size_of c) v i.vd (width_at c.vtype at.vd) e) 0

  -- the mask bit of an element, where the mask is an operand
  abbrev pub mask_operand : List (List ℕ) → ℕ → Bool
  mask_operand v e = reads_mask i o && mask_bit_of v 0 e

  -- the instruction acts on each element from vstart on and below vl
  unfoldable pub elements_at : Elementwise
  elements_at = record {
    vd = i.vd;
    registers = count_at c.vtype at.vd;
    width = width_at c.vtype at.vd;
    from = c.vstart;
    len = c.vl;
    vl = c.vl;
    masked = is_masked i o;
    value = λ v e. o.value value_width c.vxrm (operand_a v e) (operand_b v e) (operand_d v e) (mask_operand v e);
    clipped = λ v e. o.clips value_width c.vxrm (operand_a v e) (operand_b v e) (operand_d v e) (mask_operand v e);
  }

-- an instruction with this operation, by its class
abbrev pub on_elements : VInstr → Cfg → (scalar : ℕ) → Operation → Elementwise
on_elements i c scalar o = elements_at i c scalar (row_of (class_of i.op) c.vtype.sew i) o

-- the operations whose meaning stands here so far
unfoldable pub operation_for : VOp → Option Operation
operation_for (Opi Vadd) = Some (of_two vadd)
operation_for (Opi Vsub) = Some (of_two vsub)
operation_for (Opi Vrsub) = Some (of_two vrsub)
operation_for (Opi Vadc) = Some (of_two_and_mask vadc)
operation_for (Opi Vsbc) = Some (of_two_and_mask vsbc)
operation_for (Opi Vmadc) = Some (of_two_and_mask vmadc)
operation_for (Opi Vmsbc) = Some (of_two_and_mask vmsbc)
operation_for (Opi Vand) = Some (of_two vand)
operation_for (Opi Vor) = Some (of_two vor)
operation_for (Opi Vxor) = Some (of_two vxor)
operation_for (Opi Vsll) = Some (unsigned_immediate vsll)
operation_for (Opi Vsrl) = Some (unsigned_immediate vsrl)
operation_for (Opi Vsra) = Some (unsigned_immediate vsra)
operation_for (Opi Vmseq) = Some (of_two vmseq)
operation_for (Opi Vmsne) = Some (of_two vmsne)
operation_for (Opi Vmsltu) = Some (of_two vmsltu)
operation_for (Opi Vmslt) = Some (of_two vmslt)
operation_for (Opi Vmsleu) = Some (of_two vmsleu)
operation_for (Opi Vmsle) = Some (of_two vmsle)
operation_for (Opi Vmsgtu) = Some (of_two vmsgtu)
operation_for (Opi Vmsgt) = Some (of_two vmsgt)
operation_for (Opi Vminu) = Some (of_two vminu)
operation_for (Opi Vmin) = Some (of_two vmin)
operation_for (Opi Vmaxu) = Some (of_two vmaxu)
operation_for (Opi Vmax) = Some (of_two vmax)
operation_for (Opi Vmerge) = Some (of_two_and_mask vmerge)
operation_for (Opi VmvV) = Some (of_two vmv)
operation_for (Opi Vnsrl) = Some (unsigned_immediate vnsrl)
operation_for (Opi Vnsra) = Some (unsigned_immediate vnsra)
operation_for (Opi Vnclipu) = Some (without_sign (of_clipping vnclipu vnclipu_clips))
operation_for (Opi Vnclip) = Some (without_sign (of_clipping vnclip vnclip_clips))
operation_for (Opi Vsmul) = Some (of_clipping vsmul vsmul_clips)
operation_for (Opi Vssrl) = Some (without_sign (of_rounding vssrl))
operation_for (Opi Vssra) = Some (without_sign (of_rounding vssra))
operation_for (Opi Vsaddu) = Some (of_clipping vsaddu vsaddu_clips)
operation_for (Opi Vsadd) = Some (of_clipping vsadd vsadd_clips)
operation_for (Opi Vssubu) = Some (of_clipping vssubu vssubu_clips)
operation_for (Opi Vssub) = Some (of_clipping vssub vssub_clips)
operation_for (Opm Vaaddu) = Some (of_rounding vaaddu)
operation_for (Opm Vaadd) = Some (of_rounding vaadd)
operation_for (Opm Vasubu) = Some (of_rounding vasubu)
operation_for (Opm Vasub) = Some (of_rounding vasub)
operation_for (Opm VzextVf2) = Some (of_two vext)
operation_for (Opm VzextVf4) = Some (of_two vext)
operation_for (Opm VsextVf2) = Some (on_signed (of_two vext))
operation_for (Opm VsextVf4) = Some (on_signed (of_two vext))
operation_for (Opm Vwaddu) = Some (of_two vadd)
operation_for (Opm Vwadd) = Some (on_signed (of_two vadd))
operation_for (Opm Vwsubu) = Some (of_two vsub)
operation_for (Opm Vwsub) = Some (on_signed (of_two vsub))
operation_for (Opm VwadduW) = Some (of_two vadd)
operation_for (Opm VwaddW) = Some (on_signed (of_two vadd))
operation_for (Opm VwsubuW) = Some (of_two vsub)
operation_for (Opm VwsubW) = Some (on_signed (of_two vsub))
operation_for (Opm Vwmulu) = Some (of_two vmul)
operation_for (Opm Vwmulsu) = Some (on_signed_a (of_two vmul))
operation_for (Opm Vwmul) = Some (on_signed (of_two vmul))
operation_for (Opm Vwmaccu) = Some (of_three vmacc)
operation_for (Opm Vwmacc) = Some (on_signed (of_three vmacc))
operation_for (Opm Vwmaccus) = Some (on_signed_a (of_three vmacc))
operation_for (Opm Vwmaccsu) = Some (on_signed_b (of_three vmacc))
operation_for (Opm Vmul) = Some (of_two vmul)
operation_for (Opm Vmulh) = Some (of_two vmulh)
operation_for (Opm Vmulhu) = Some (of_two vmulhu)
operation_for (Opm Vmulhsu) = Some (of_two vmulhsu)
operation_for (Opm Vdivu) = Some (of_two vdivu)
operation_for (Opm Vdiv) = Some (of_two vdiv)
operation_for (Opm Vremu) = Some (of_two vremu)
operation_for (Opm Vrem) = Some (of_two vrem)
operation_for (Opm Vmacc) = Some (of_three vmacc)
operation_for (Opm Vnmsac) = Some (of_three vnmsac)
operation_for (Opm Vmadd) = Some (of_three vmadd)
operation_for (Opm Vnmsub) = Some (of_three vnmsub)
operation_for _ = None
