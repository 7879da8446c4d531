-- The lists of each recipe compute the value, or tell the truth, of its operation.
use Rattle.std.proofs.Common.{◌≡◌, ℕ, ◌+◌, ◌-◌, ◌*◌, ◌^◌, Bool, true, false, cond, leb, ltb, Option, Some, None, refl, ap, arith, mul_comm}
use Rattle.rvv_decode.specs.declared.instruction.OpiOp.TheVariants.{Vadd, Vsub, Vrsub, Vadc, Vsbc, Vmadc, Vmsbc, Vand, Vor, Vxor, Vsll, Vsrl, Vsra, Vmseq, Vmsne, Vmsltu, Vmslt, Vmsleu, Vmsle, Vmsgtu, Vmsgt, Vminu, Vmin, Vmaxu, Vmax, Vmerge, VmvV, Vnsrl, Vnsra, Vnclipu, Vnclip, Vsaddu, Vsadd, Vssubu, Vssub, Vsmul, Vssrl, Vssra}
use Rattle.rvv_decode.specs.declared.instruction.OpmOp.TheVariants.{Vdivu, Vdiv, Vremu, Vrem, Vmulhu, Vmul, Vmulhsu, Vmulh, Vmadd, Vnmsub, Vmacc, Vnmsac, VzextVf2, VzextVf4, VsextVf2, VsextVf4, Vwaddu, Vwadd, Vwsubu, Vwsub, VwadduW, VwaddW, VwsubuW, VwsubW, Vwmulu, Vwmulsu, Vwmul, Vwmaccu, Vwmacc, Vwmaccus, Vwmaccsu, Vaaddu, Vaadd, Vasubu, Vasub}
use Rattle.rvv_decode.specs.declared.instruction.VOp.{VOp}
use Rattle.rvv_decode.specs.declared.instruction.VOp.TheVariants.{Opi, Opm, Config, Memory}
use Rattle.vtype_cfg.specs.Classes.{Class, class_of, opi_class, opm_class, compare, narrowing}
use Rattle.bit_laws.specs.Numbers.{low}
use Rattle.rvv_meaning.specs.Operations.{Operation, operation_for}
use Rattle.frame_meaning.specs.declared.Order.{Order}
use Rattle.frame_meaning.specs.declared.Order.TheVariants.{Straight, Widening, WideSource, Half, Quarter}
use Rattle.frame_meaning.specs.declared.Signs.{Signs}
use Rattle.frame_meaning.specs.Clips.{flag_of, clips_by}
use Rattle.frame_meaning.specs.Halves.{IsOfHalves}
use Rattle.frame_meaning.specs.Laws.{Ignores}
use Rattle.frame_meaning.specs.Masks.{IsTruth}
use Rattle.frame_meaning.specs.Shapes.{class_in, signs_of, value_by}
use Rattle.vec_exec.specs.declared.recipes.Listed.{Listed}
use Rattle.vec_exec.specs.declared.recipes.Recipe.{Recipe}
use Rattle.vec_exec.specs.Recipes.{recipe_for, makes_bits, makes_halves, takes_row, takes_laid, uses_wide_rows, value_of, truth_of, tells_clips, clips_of}

-- ---- what a recipe and its operation have in common

-- no element is clipped
abbrev pub never : (w mode a b d : ℕ) → Bool → Bool
never w mode a b d m = false

-- whether a list takes one operand alone, which is laid out for it
abbrev pub takes_one_laid : Order → Bool
takes_one_laid Half = true
takes_one_laid Quarter = true
takes_one_laid _ = false

-- whether operands are laid out in the rows of wide operands
abbrev pub has_wide_rows : Order → Bool
has_wide_rows Widening = true
has_wide_rows WideSource = true
has_wide_rows _ = false

-- what says how a program is made
pub record Traits : Type 0 where
  pub takes_mask : Bool
  pub signs : Signs
  pub plain : Bool
  pub masked : Bool
  pub plain_laid : Bool
  pub masked_laid : Bool
  -- whether the lists use the rows of wide operands, and whether they do so though these hold operands
  pub uses_wide : Bool
  pub clashes : Bool
  pub bits : Bool
  pub halves : Bool
  pub order_of_bits : Order
  pub class : Class
  pub tells : Bool

abbrev pub traits_of : VOp → Recipe → Operation → Traits
traits_of op r o = record {
  takes_mask = r.takes_mask;
  signs = r.signs;
  plain = takes_row r.plain;
  masked = takes_row r.masked;
  plain_laid = takes_laid r.plain;
  masked_laid = takes_laid r.masked;
  uses_wide = uses_wide_rows r.plain;
  clashes = cond (has_wide_rows r.order) (uses_wide_rows r.masked) false;
  bits = makes_bits r.plain;
  halves = makes_halves r.plain;
  order_of_bits = cond (makes_bits r.masked) r.order Straight;
  class = class_of op;
  tells = tells_clips r.plain;
}

abbrev pub traits_wanted : Recipe → Operation → Traits
traits_wanted r o = record {
  takes_mask = o.takes_mask;
  signs = signs_of o;
  plain = false;
  masked = r.takes_mask;
  plain_laid = takes_one_laid r.order;
  masked_laid = takes_one_laid r.order;
  uses_wide = uses_wide_rows r.masked;
  clashes = false;
  bits = makes_bits r.masked;
  halves = makes_halves r.masked;
  order_of_bits = Straight;
  class = cond (makes_bits r.masked) compare (cond (makes_halves r.masked) narrowing (class_in r.order));
  tells = tells_clips r.masked;
}

-- the list with the mask computes the value, or tells the truth
abbrev pub Means : (bits : Bool) → Recipe → Operation → Type 0
Means false r o = (w mode a b d : ℕ) (m : Bool) → value_of r.masked w mode a b d m ≡ value_by r.order o w mode a b d m
Means true r o = IsTruth o (truth_of r.masked)

-- the list without it is that with a mask bit of 0
abbrev pub Unmasked : (bits : Bool) → (plain masked : Listed) → Type 0
Unmasked false plain masked = (w mode a b d : ℕ) (m : Bool) → value_of plain w mode a b d m ≡ value_of masked w mode a b d false
Unmasked true plain masked = (w a b : ℕ) (m : Bool) → truth_of plain w a b m ≡ truth_of masked w a b false

-- the operation can be computed half by half, and what it clips too
pub record Halved (r : Recipe) (o : Operation) : Type 0 where
  pub value : IsOfHalves o
  pub flag : IsOfHalves (flag_of o)
  pub straight : r.order ≡ Straight

abbrev pub ForHalves : (halves : Bool) → Recipe → Operation → Type 0
ForHalves false r o = Unit {0}
ForHalves true r o = Halved r o

-- the one list of an operation that clips tells what it clips
pub record Clipping (r : Recipe) (o : Operation) : Type 0 where
  pub takes : o.takes_mask ≡ false
  pub plain : r.plain ≡ r.masked
  pub ignores : Ignores r.order (flag_of o)
  pub means : (w mode a b d : ℕ) → clips_of r.masked w mode a b d ≡ clips_by r.order o w mode a b d

abbrev pub ForClips : (tells : Bool) → Recipe → Operation → Type 0
ForClips false r o = o.clips ≡ never
ForClips true r o = Clipping r o

pub record Fits (op : VOp) (r : Recipe) (o : Operation) : Type 0 where
  pub same : traits_of op r o ≡ traits_wanted r o
  pub ignores : Ignores r.order o
  pub means : Means (makes_bits r.masked) r o
  pub unmasked : Unmasked (makes_bits r.masked) r.plain r.masked
  pub halves : ForHalves (makes_halves r.masked) r o
  pub clips : ForClips (tells_clips r.masked) r o

-- ---- each operation

abbrev FitsIf : VOp → Option Recipe → Option Operation → Type 0
FitsIf op None None = Unit {0}
FitsIf op (Some r) (Some o) = Fits op r o
FitsIf op (Some r) None = ⊥
FitsIf op None (Some o) = ⊥

-- a product added to a third operand, and taken from it, in the order of the list and of the meaning
added : (a b d : ℕ) → a * b + d ≡ b * a + d
added a b d = ap (λ (n : ℕ). n + d) (mul_comm a b)

taken : (w a b d : ℕ) → d + (2 ^ w - low w (a * b)) ≡ d + (2 ^ w - low w (b * a))
taken w a b d = ap (λ (n : ℕ). d + (2 ^ w - low w n)) (mul_comm a b)

fits : (op : VOp) → FitsIf op (recipe_for op) (operation_for op)
unfolding recipe_for operation_for opi_class opm_class
fits (Opi Vadd) = record { same = refl; ignores = tt; means = λ w mode a b d m. refl; unmasked = λ w mode a b d m. refl; halves = tt; clips = refl }
fits (Opi Vsub) = record { same = refl; ignores = tt; means = λ w mode a b d m. refl; unmasked = λ w mode a b d m. refl; halves = tt; clips = refl }
fits (Opi Vrsub) = record { same = refl; ignores = tt; means = λ w mode a b d m. refl; unmasked = λ w mode a b d m. refl; halves = tt; clips = refl }
fits (Opi Vadc) = record { same = refl; ignores = tt; means = λ w mode a b d m. refl; unmasked = λ w mode a b d m. omega arith; halves = tt; clips = refl }
fits (Opi Vsbc) = record { same = refl; ignores = tt; means = λ w mode a b d m. refl; unmasked = λ w mode a b d m. omega arith; halves = tt; clips = refl }
fits (Opi Vmadc) = record { same = refl; ignores = tt; means = λ w mode a b d m. refl; unmasked = λ w a b m. let e : a + b ≡ a + b + 0 = omega arith in ap (leb (2 ^ w)) e; halves = tt; clips = refl }
fits (Opi Vmsbc) = record { same = refl; ignores = tt; means = λ w mode a b d m. refl; unmasked = λ w a b m. let e : b ≡ b + 0 = omega arith in ap (ltb a) e; halves = tt; clips = refl }
fits (Opi Vand) = record { same = refl; ignores = tt; means = λ w mode a b d m. refl; unmasked = λ w mode a b d m. refl; halves = tt; clips = refl }
fits (Opi Vor) = record { same = refl; ignores = tt; means = λ w mode a b d m. refl; unmasked = λ w mode a b d m. refl; halves = tt; clips = refl }
fits (Opi Vxor) = record { same = refl; ignores = tt; means = λ w mode a b d m. refl; unmasked = λ w mode a b d m. refl; halves = tt; clips = refl }
fits (Opi Vsll) = record { same = refl; ignores = tt; means = λ w mode a b d m. refl; unmasked = λ w mode a b d m. refl; halves = tt; clips = refl }
fits (Opi Vsrl) = record { same = refl; ignores = tt; means = λ w mode a b d m. refl; unmasked = λ w mode a b d m. refl; halves = tt; clips = refl }
fits (Opi Vsra) = record { same = refl; ignores = tt; means = λ w mode a b d m. refl; unmasked = λ w mode a b d m. refl; halves = tt; clips = refl }
fits (Opi Vmseq) = record { same = refl; ignores = tt; means = λ w mode a b d m. refl; unmasked = λ w a b m. refl; halves = tt; clips = refl }
fits (Opi Vmsne) = record { same = refl; ignores = tt; means = λ w mode a b d m. refl; unmasked = λ w a b m. refl; halves = tt; clips = refl }
fits (Opi Vmsltu) = record { same = refl; ignores = tt; means = λ w mode a b d m. refl; unmasked = λ w a b m. refl; halves = tt; clips = refl }
fits (Opi Vmslt) = record { same = refl; ignores = tt; means = λ w mode a b d m. refl; unmasked = λ w a b m. refl; halves = tt; clips = refl }
fits (Opi Vmsleu) = record { same = refl; ignores = tt; means = λ w mode a b d m. refl; unmasked = λ w a b m. refl; halves = tt; clips = refl }
fits (Opi Vmsle) = record { same = refl; ignores = tt; means = λ w mode a b d m. refl; unmasked = λ w a b m. refl; halves = tt; clips = refl }
fits (Opi Vmsgtu) = record { same = refl; ignores = tt; means = λ w mode a b d m. refl; unmasked = λ w a b m. refl; halves = tt; clips = refl }
fits (Opi Vmsgt) = record { same = refl; ignores = tt; means = λ w mode a b d m. refl; unmasked = λ w a b m. refl; halves = tt; clips = refl }
fits (Opi Vminu) = record { same = refl; ignores = tt; means = λ w mode a b d m. refl; unmasked = λ w mode a b d m. refl; halves = tt; clips = refl }
fits (Opi Vmin) = record { same = refl; ignores = tt; means = λ w mode a b d m. refl; unmasked = λ w mode a b d m. refl; halves = tt; clips = refl }
fits (Opi Vmaxu) = record { same = refl; ignores = tt; means = λ w mode a b d m. refl; unmasked = λ w mode a b d m. refl; halves = tt; clips = refl }
fits (Opi Vmax) = record { same = refl; ignores = tt; means = λ w mode a b d m. refl; unmasked = λ w mode a b d m. refl; halves = tt; clips = refl }
fits (Opi Vmerge) = record { same = refl; ignores = tt; means = λ w mode a b d m. refl; unmasked = λ w mode a b d m. refl; halves = tt; clips = refl }
fits (Opi VmvV) = record { same = refl; ignores = λ w mode x y b d m. refl; means = λ w mode a b d m. refl; unmasked = λ w mode a b d m. refl; halves = tt; clips = refl }
fits (Opi Vnsrl) = record { same = refl; ignores = tt; means = λ w mode a b d m. refl; unmasked = λ w mode a b d m. refl; halves = record { value = record { ignores = λ w mode a b d m. refl; a = refl; b = refl; immediate = refl }; flag = record { ignores = λ w mode a b d m. refl; a = refl; b = refl; immediate = refl }; straight = refl }; clips = refl }
fits (Opi Vnsra) = record { same = refl; ignores = tt; means = λ w mode a b d m. refl; unmasked = λ w mode a b d m. refl; halves = record { value = record { ignores = λ w mode a b d m. refl; a = refl; b = refl; immediate = refl }; flag = record { ignores = λ w mode a b d m. refl; a = refl; b = refl; immediate = refl }; straight = refl }; clips = refl }
fits (Opi Vnclipu) = record { same = refl; ignores = tt; means = λ w mode a b d m. refl; unmasked = λ w mode a b d m. refl; halves = record { value = record { ignores = λ w mode a b d m. refl; a = refl; b = refl; immediate = refl }; flag = record { ignores = λ w mode a b d m. refl; a = refl; b = refl; immediate = refl }; straight = refl }; clips = record { takes = refl; plain = refl; ignores = tt; means = λ w mode a b d. refl } }
fits (Opi Vnclip) = record { same = refl; ignores = tt; means = λ w mode a b d m. refl; unmasked = λ w mode a b d m. refl; halves = record { value = record { ignores = λ w mode a b d m. refl; a = refl; b = refl; immediate = refl }; flag = record { ignores = λ w mode a b d m. refl; a = refl; b = refl; immediate = refl }; straight = refl }; clips = record { takes = refl; plain = refl; ignores = tt; means = λ w mode a b d. refl } }
fits (Opi Vsmul) = record { same = refl; ignores = tt; means = λ w mode a b d m. refl; unmasked = λ w mode a b d m. refl; halves = tt; clips = record { takes = refl; plain = refl; ignores = tt; means = λ w mode a b d. refl } }
fits (Opi Vssrl) = record { same = refl; ignores = tt; means = λ w mode a b d m. refl; unmasked = λ w mode a b d m. refl; halves = tt; clips = refl }
fits (Opi Vssra) = record { same = refl; ignores = tt; means = λ w mode a b d m. refl; unmasked = λ w mode a b d m. refl; halves = tt; clips = refl }
fits (Opi Vsaddu) = record { same = refl; ignores = tt; means = λ w mode a b d m. refl; unmasked = λ w mode a b d m. refl; halves = tt; clips = record { takes = refl; plain = refl; ignores = tt; means = λ w mode a b d. refl } }
fits (Opi Vsadd) = record { same = refl; ignores = tt; means = λ w mode a b d m. refl; unmasked = λ w mode a b d m. refl; halves = tt; clips = record { takes = refl; plain = refl; ignores = tt; means = λ w mode a b d. refl } }
fits (Opi Vssubu) = record { same = refl; ignores = tt; means = λ w mode a b d m. refl; unmasked = λ w mode a b d m. refl; halves = tt; clips = record { takes = refl; plain = refl; ignores = tt; means = λ w mode a b d. refl } }
fits (Opi Vssub) = record { same = refl; ignores = tt; means = λ w mode a b d m. refl; unmasked = λ w mode a b d m. refl; halves = tt; clips = record { takes = refl; plain = refl; ignores = tt; means = λ w mode a b d. refl } }
fits (Opm Vaaddu) = record { same = refl; ignores = tt; means = λ w mode a b d m. refl; unmasked = λ w mode a b d m. refl; halves = tt; clips = refl }
fits (Opm Vaadd) = record { same = refl; ignores = tt; means = λ w mode a b d m. refl; unmasked = λ w mode a b d m. refl; halves = tt; clips = refl }
fits (Opm Vasubu) = record { same = refl; ignores = tt; means = λ w mode a b d m. refl; unmasked = λ w mode a b d m. refl; halves = tt; clips = refl }
fits (Opm Vasub) = record { same = refl; ignores = tt; means = λ w mode a b d m. refl; unmasked = λ w mode a b d m. refl; halves = tt; clips = refl }
fits (Opm Vmul) = record { same = refl; ignores = tt; means = λ w mode a b d m. refl; unmasked = λ w mode a b d m. refl; halves = tt; clips = refl }
fits (Opm Vmulh) = record { same = refl; ignores = tt; means = λ w mode a b d m. refl; unmasked = λ w mode a b d m. refl; halves = tt; clips = refl }
fits (Opm Vmulhu) = record { same = refl; ignores = tt; means = λ w mode a b d m. refl; unmasked = λ w mode a b d m. refl; halves = tt; clips = refl }
fits (Opm Vmulhsu) = record { same = refl; ignores = tt; means = λ w mode a b d m. refl; unmasked = λ w mode a b d m. refl; halves = tt; clips = refl }
fits (Opm Vdivu) = record { same = refl; ignores = tt; means = λ w mode a b d m. refl; unmasked = λ w mode a b d m. refl; halves = tt; clips = refl }
fits (Opm Vdiv) = record { same = refl; ignores = tt; means = λ w mode a b d m. refl; unmasked = λ w mode a b d m. refl; halves = tt; clips = refl }
fits (Opm Vremu) = record { same = refl; ignores = tt; means = λ w mode a b d m. refl; unmasked = λ w mode a b d m. refl; halves = tt; clips = refl }
fits (Opm Vrem) = record { same = refl; ignores = tt; means = λ w mode a b d m. refl; unmasked = λ w mode a b d m. refl; halves = tt; clips = refl }
fits (Opm Vmacc) = record { same = refl; ignores = tt; means = λ w mode a b d m. added a b d; unmasked = λ w mode a b d m. refl; halves = tt; clips = refl }
fits (Opm Vnmsac) = record { same = refl; ignores = tt; means = λ w mode a b d m. taken w a b d; unmasked = λ w mode a b d m. refl; halves = tt; clips = refl }
fits (Opm Vmadd) = record { same = refl; ignores = tt; means = λ w mode a b d m. added a b d; unmasked = λ w mode a b d m. refl; halves = tt; clips = refl }
fits (Opm Vnmsub) = record { same = refl; ignores = tt; means = λ w mode a b d m. taken w a b d; unmasked = λ w mode a b d m. refl; halves = tt; clips = refl }
fits (Opm VzextVf2) = record { same = refl; ignores = λ w mode a x y d m. refl; means = λ w mode a b d m. refl; unmasked = λ w mode a b d m. refl; halves = tt; clips = refl }
fits (Opm VzextVf4) = record { same = refl; ignores = λ w mode a x y d m. refl; means = λ w mode a b d m. refl; unmasked = λ w mode a b d m. refl; halves = tt; clips = refl }
fits (Opm VsextVf2) = record { same = refl; ignores = λ w mode a x y d m. refl; means = λ w mode a b d m. refl; unmasked = λ w mode a b d m. refl; halves = tt; clips = refl }
fits (Opm VsextVf4) = record { same = refl; ignores = λ w mode a x y d m. refl; means = λ w mode a b d m. refl; unmasked = λ w mode a b d m. refl; halves = tt; clips = refl }
fits (Opm Vwaddu) = record { same = refl; ignores = tt; means = λ w mode a b d m. refl; unmasked = λ w mode a b d m. refl; halves = tt; clips = refl }
fits (Opm Vwadd) = record { same = refl; ignores = tt; means = λ w mode a b d m. refl; unmasked = λ w mode a b d m. refl; halves = tt; clips = refl }
fits (Opm Vwsubu) = record { same = refl; ignores = tt; means = λ w mode a b d m. refl; unmasked = λ w mode a b d m. refl; halves = tt; clips = refl }
fits (Opm Vwsub) = record { same = refl; ignores = tt; means = λ w mode a b d m. refl; unmasked = λ w mode a b d m. refl; halves = tt; clips = refl }
fits (Opm VwadduW) = record { same = refl; ignores = tt; means = λ w mode a b d m. refl; unmasked = λ w mode a b d m. refl; halves = tt; clips = refl }
fits (Opm VwaddW) = record { same = refl; ignores = tt; means = λ w mode a b d m. refl; unmasked = λ w mode a b d m. refl; halves = tt; clips = refl }
fits (Opm VwsubuW) = record { same = refl; ignores = tt; means = λ w mode a b d m. refl; unmasked = λ w mode a b d m. refl; halves = tt; clips = refl }
fits (Opm VwsubW) = record { same = refl; ignores = tt; means = λ w mode a b d m. refl; unmasked = λ w mode a b d m. refl; halves = tt; clips = refl }
fits (Opm Vwmulu) = record { same = refl; ignores = tt; means = λ w mode a b d m. refl; unmasked = λ w mode a b d m. refl; halves = tt; clips = refl }
fits (Opm Vwmulsu) = record { same = refl; ignores = tt; means = λ w mode a b d m. refl; unmasked = λ w mode a b d m. refl; halves = tt; clips = refl }
fits (Opm Vwmul) = record { same = refl; ignores = tt; means = λ w mode a b d m. refl; unmasked = λ w mode a b d m. refl; halves = tt; clips = refl }
fits (Opm Vwmaccu) = record { same = refl; ignores = tt; means = λ w mode a b d m. added a b d; unmasked = λ w mode a b d m. refl; halves = tt; clips = refl }
fits (Opm Vwmacc) = record { same = refl; ignores = tt; means = λ w mode a b d m. added a b d; unmasked = λ w mode a b d m. refl; halves = tt; clips = refl }
fits (Opm Vwmaccus) = record { same = refl; ignores = tt; means = λ w mode a b d m. added a b d; unmasked = λ w mode a b d m. refl; halves = tt; clips = refl }
fits (Opm Vwmaccsu) = record { same = refl; ignores = tt; means = λ w mode a b d m. added a b d; unmasked = λ w mode a b d m. refl; halves = tt; clips = refl }
fits (Opi _) = tt
fits (Opm _) = tt
fits (Config _) = tt
fits (Memory _) = tt

-- ---- what they say together

-- the operation of a recipe
pub record Fitted (op : VOp) (r : Recipe) : Type 0 where
  pub operation : Operation
  pub is : operation_for op ≡ Some operation
  pub fits : Fits op r operation

pub fitted : (op : VOp) (r : Recipe) → recipe_for op ≡ Some r → Fitted op r
fitted op r named = from (operation_for op) refl (rw named at (fits op))
  where
    from : (o : Option Operation) → operation_for op ≡ o → FitsIf op (Some r) o → Fitted op r
    from (Some o) is h = record { operation = o; is = is; fits = h }
    from None is h = absurd h
