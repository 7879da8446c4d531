-- The table of kinds: an instruction of a kind has its class, and leaves what the kind does.
use Rattle.std.proofs.Common.{◌≡◌, Option, None, Some, refl, subst}
use Rattle.rvv_decode.specs.declared.instruction.VOp.{VOp}
use Rattle.rvv_decode.specs.declared.instruction.VOp.TheVariants.{Opi, Opm, Config, Memory}
use Rattle.rvv_decode.specs.declared.instruction.OpiOp.{OpiOp}
use Rattle.rvv_decode.specs.declared.instruction.OpiOp.TheVariants.{Vwredsumu, Vwredsum}
use Rattle.rvv_decode.specs.declared.instruction.OpmOp.{OpmOp}
use Rattle.rvv_decode.specs.declared.instruction.OpmOp.TheVariants.{Vredsum, Vredand, Vredor, Vredxor, Vredminu, Vredmin, Vredmaxu, Vredmax, Vcpop, Vfirst}
use Rattle.vtype_cfg.specs.Classes.{opi_class, opm_class, class_of}
use Rattle.rvv_meaning.specs.Operations.{operation_for}
use Rattle.rvv_meaning.specs.Whole.{whole_for}
use Rattle.fold_exec.specs.declared.kinds.Kind.{Kind}
use Rattle.fold_exec.specs.Kinds.{opm_kind, kind_for, class_for, leaving_of}

pub record Fits (op : VOp) (kind : Kind) : Type 0 where
  pub class : class_of op ≡ class_for kind
  pub whole : whole_for op ≡ Some (leaving_of kind)
  pub none : operation_for op ≡ None

abbrev FitsIf : VOp → Option Kind → Type 0
FitsIf op None = Unit {0}
FitsIf op (Some kind) = Fits op kind

opm-fits : (op : OpmOp) → FitsIf (Opm op) (opm_kind op)
unfolding opm_kind opm_class whole_for operation_for
opm-fits Vcpop = record { class = refl; whole = refl; none = refl }
opm-fits Vfirst = record { class = refl; whole = refl; none = refl }
opm-fits Vredsum = record { class = refl; whole = refl; none = refl }
opm-fits Vredand = record { class = refl; whole = refl; none = refl }
opm-fits Vredor = record { class = refl; whole = refl; none = refl }
opm-fits Vredxor = record { class = refl; whole = refl; none = refl }
opm-fits Vredminu = record { class = refl; whole = refl; none = refl }
opm-fits Vredmin = record { class = refl; whole = refl; none = refl }
opm-fits Vredmaxu = record { class = refl; whole = refl; none = refl }
opm-fits Vredmax = record { class = refl; whole = refl; none = refl }
opm-fits _ = tt

opi-fits : (op : OpiOp) → FitsIf (Opi op) (kind_for (Opi op))
unfolding kind_for opi_class whole_for operation_for
opi-fits Vwredsumu = record { class = refl; whole = refl; none = refl }
opi-fits Vwredsum = record { class = refl; whole = refl; none = refl }
opi-fits _ = tt

fits : (op : VOp) → FitsIf op (kind_for op)
unfolding kind_for
fits (Opi op) = opi-fits op
fits (Opm op) = opm-fits op
fits (Config op) = tt
fits (Memory op) = tt

pub of-kind : (op : VOp) (kind : Kind) → kind_for op ≡ Some kind → Fits op kind
of-kind op kind is = subst (FitsIf op) is (fits op)
