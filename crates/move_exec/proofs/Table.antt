-- The table of kinds: an instruction of a kind has its class, and leaves what the kind does.
use Rattle.std.proofs.Common.{◌≡◌, Bool, true, false, cond, not, Option, None, Some, refl, ap, subst}
use Rattle.gen_logic.specs.Values.{takes_mask, differs, xnor}
use Rattle.rvv_decode.specs.declared.instruction.VOp.{VOp}
use Rattle.rvv_decode.specs.declared.instruction.VOp.TheVariants.{Opi, Opm}
use Rattle.rvv_decode.specs.declared.instruction.OpmOp.TheVariants.{Vmand, Vmor, Vmxor, Vmnand, Vmnor, Vmxnor, Vmandn, Vmorn, Vmsbf, Vmsif, Vmsof, Vid, Vslide1up, Vslide1down, VmvSX}
use Rattle.rvv_decode.specs.declared.instruction.OpiOp.TheVariants.{Vslideup, Vslidedown, Vrgather, VmvWhole}
use Rattle.vtype_cfg.specs.Classes.{opi_class, opm_class, class_of}
use Rattle.rvv_meaning.specs.Operations.{operation_for}
use Rattle.rvv_meaning.specs.Whole.{Leaving, whole_for, mask_logic}
use Rattle.move_exec.specs.declared.kinds.Kind.{Kind}
use Rattle.move_exec.specs.declared.kinds.Kind.TheVariants.{Masks, Marks, Numbers, Moves}
use Rattle.move_exec.specs.Kinds.{kind_for, class_for, leaving_of}

-- a truth of two masks takes no third one
abbrev Plain : Kind → Type 0
Plain (Masks kind) = takes_mask kind ≡ false
Plain (Marks how) = Unit {0}
Plain Numbers = Unit {0}
Plain (Moves how) = Unit {0}

-- what holds of an instruction of a kind: its class, and that it leaves what the kind does
pub record Fits (op : VOp) (kind : Kind) : Type 0 where
  pub class : class_of op ≡ class_for kind
  pub plain : Plain kind
  pub whole : whole_for op ≡ Some (leaving_of kind)
  pub none : operation_for op ≡ None

abbrev FitsIf : VOp → Option Kind → Type 0
FitsIf op None = Unit {0}
FitsIf op (Some kind) = Fits op kind

-- truths that are the same of any two bits are the same
abbrev by_truth : ((a b : Bool) → Bool) → Option Leaving
by_truth f = Some (λ i c x v. mask_logic i c x v f)

same-truths : (f g : (a b : Bool) → Bool) → ((a b : Bool) → f a b ≡ g a b) → by_truth f ≡ by_truth g
same-truths f g same =
    let truths : f ≡ g = λ z a b. same a b z in
    ap by_truth truths

chosen-differs : (a b : Bool) → cond a (not b) b ≡ differs a b
chosen-differs true b = refl
chosen-differs false b = refl

chosen-agrees : (a b : Bool) → not (cond a (not b) b) ≡ xnor a b
chosen-agrees true b = refl
chosen-agrees false b = refl

fits : (op : VOp) → FitsIf op (kind_for op)
unfolding kind_for opi_class opm_class whole_for operation_for
fits (Opm Vmand) = record { class = refl; plain = refl; whole = refl; none = refl }
fits (Opm Vmor) = record { class = refl; plain = refl; whole = refl; none = refl }
fits (Opm Vmxor) = record { class = refl; plain = refl; whole = same-truths _ _ chosen-differs; none = refl }
fits (Opm Vmnand) = record { class = refl; plain = refl; whole = refl; none = refl }
fits (Opm Vmnor) = record { class = refl; plain = refl; whole = refl; none = refl }
fits (Opm Vmxnor) = record { class = refl; plain = refl; whole = same-truths _ _ chosen-agrees; none = refl }
fits (Opm Vmandn) = record { class = refl; plain = refl; whole = refl; none = refl }
fits (Opm Vmorn) = record { class = refl; plain = refl; whole = refl; none = refl }
fits (Opm Vmsbf) = record { class = refl; plain = tt; whole = refl; none = refl }
fits (Opm Vmsif) = record { class = refl; plain = tt; whole = refl; none = refl }
fits (Opm Vmsof) = record { class = refl; plain = tt; whole = refl; none = refl }
fits (Opm Vid) = record { class = refl; plain = tt; whole = refl; none = refl }
fits (Opm Vslide1up) = record { class = refl; plain = tt; whole = refl; none = refl }
fits (Opm Vslide1down) = record { class = refl; plain = tt; whole = refl; none = refl }
fits (Opm VmvSX) = record { class = refl; plain = tt; whole = refl; none = refl }
fits (Opi Vslideup) = record { class = refl; plain = tt; whole = refl; none = refl }
fits (Opi Vslidedown) = record { class = refl; plain = tt; whole = refl; none = refl }
fits (Opi Vrgather) = record { class = refl; plain = tt; whole = refl; none = refl }
fits (Opi VmvWhole) = record { class = refl; plain = tt; whole = refl; none = refl }
fits _ = tt

pub of-kind : (op : VOp) (kind : Kind) → kind_for op ≡ Some kind → Fits op kind
of-kind op kind is = subst (FitsIf op) is (fits op)
