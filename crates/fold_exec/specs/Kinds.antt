-- The kinds of instruction, and what each leaves.
use Rattle.std.specs.Prelude.{ℕ, ◌*◌, Bool, true, false, cond, Option, None, Some}
use Rattle.gen_reduce.specs.declared.kinds.Reduction.{Reduction}
use Rattle.gen_reduce.specs.declared.kinds.Reduction.TheVariants.{Redsum, Redand, Redor, Redxor, Wredsumu, Wredsum}
use Rattle.gen_reduce.specs.Kinds.{is_wide}
use Rattle.row_orders.specs.declared.orders.Order.{Order}
use Rattle.row_orders.specs.declared.orders.Order.TheVariants.{Minu, Min, Maxu, Max}
use Rattle.rvv_decode.specs.declared.instruction.VOp.{VOp}
use Rattle.rvv_decode.specs.declared.instruction.VOp.TheVariants.{Opi, Opm}
use Rattle.rvv_decode.specs.declared.instruction.OpiOp.TheVariants.{Vwredsumu, Vwredsum}
use Rattle.rvv_decode.specs.declared.instruction.OpmOp.{OpmOp}
use Rattle.rvv_decode.specs.declared.instruction.OpmOp.TheVariants.{Vredsum, Vredand, Vredor, Vredxor, Vredminu, Vredmin, Vredmaxu, Vredmax, Vcpop, Vfirst}
use Rattle.vtype_cfg.specs.Classes.{Class, reduction, widening_reduction, mask_count}
use Rattle.rvv_meaning.specs.Operations.{vadd, vand, vor, vxor, vminu, vmin, vmaxu, vmax}
use Rattle.rvv_meaning.specs.Whole.{Leaving, reduced, wide_sum, set_count, first_set}
use Rattle.fold_exec.specs.declared.kinds.Folding.{Folding}
use Rattle.fold_exec.specs.declared.kinds.Folding.TheVariants.{Counted, Ordered}
use Rattle.fold_exec.specs.declared.kinds.Kind.{Kind}
use Rattle.fold_exec.specs.declared.kinds.Kind.TheVariants.{Number, Fold}
use Rattle.fold_exec.specs.declared.kinds.MaskNumber.{MaskNumber}
use Rattle.fold_exec.specs.declared.kinds.MaskNumber.TheVariants.{Count, First}

-- the kind of an instruction, where it has one
unfoldable pub opm_kind : OpmOp → Option Kind
opm_kind Vcpop = Some (Number Count)
opm_kind Vfirst = Some (Number First)
opm_kind Vredsum = Some (Fold (Counted Redsum))
opm_kind Vredand = Some (Fold (Counted Redand))
opm_kind Vredor = Some (Fold (Counted Redor))
opm_kind Vredxor = Some (Fold (Counted Redxor))
opm_kind Vredminu = Some (Fold (Ordered Minu))
opm_kind Vredmin = Some (Fold (Ordered Min))
opm_kind Vredmaxu = Some (Fold (Ordered Maxu))
opm_kind Vredmax = Some (Fold (Ordered Max))
opm_kind _ = None

unfoldable pub kind_for : VOp → Option Kind
kind_for (Opm op) = opm_kind op
kind_for (Opi Vwredsumu) = Some (Fold (Counted Wredsumu))
kind_for (Opi Vwredsum) = Some (Fold (Counted Wredsum))
kind_for _ = None

-- ---- what an instruction of a kind leaves

abbrev pub number_leaving : MaskNumber → Leaving
number_leaving Count i c x v = set_count i c x v
number_leaving First i c x v = first_set i c x v

abbrev pub counted_leaving : Reduction → Leaving
counted_leaving Redsum i c x v = reduced i c x v vadd
counted_leaving Redand i c x v = reduced i c x v vand
counted_leaving Redor i c x v = reduced i c x v vor
counted_leaving Redxor i c x v = reduced i c x v vxor
counted_leaving Wredsumu i c x v = wide_sum i c x v false
counted_leaving Wredsum i c x v = wide_sum i c x v true

abbrev pub ordered_leaving : Order → Leaving
ordered_leaving Minu i c x v = reduced i c x v vminu
ordered_leaving Min i c x v = reduced i c x v vmin
ordered_leaving Maxu i c x v = reduced i c x v vmaxu
ordered_leaving Max i c x v = reduced i c x v vmax

abbrev pub folding_leaving : Folding → Leaving
folding_leaving (Counted kind) = counted_leaving kind
folding_leaving (Ordered kind) = ordered_leaving kind

abbrev pub leaving_of : Kind → Leaving
leaving_of (Number kind) = number_leaving kind
leaving_of (Fold folding) = folding_leaving folding

-- ---- widths and classes

-- whether the result of a reduction has twice the bits of an element of the group, and how many it has
abbrev pub is_widening : Folding → Bool
is_widening (Counted kind) = is_wide kind
is_widening (Ordered kind) = false

abbrev pub result_bits : Folding → (bits : ℕ) → ℕ
result_bits folding bits = cond (is_widening folding) (2 * bits) bits

-- the class of an instruction of a kind
abbrev pub class_for : Kind → Class
class_for (Number kind) = mask_count
class_for (Fold folding) = cond (is_widening folding) widening_reduction reduction
