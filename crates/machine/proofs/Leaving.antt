-- What an instruction that computes from the vector registers leaves: a number, where its operation makes one, or else elements.
use Rattle.std.proofs.Common.{◌≡◌, ℕ, Bool, true, false, List, Option, Some, None, refl, sym, ◌∙◌, ap}
use Rattle.std.proofs.lemmas.Bool.{false≢true}
use Rattle.rvv_decode.specs.declared.instruction.OpmOp.{OpmOp}
use Rattle.rvv_decode.specs.declared.instruction.OpiOp.{OpiOp}
use Rattle.rvv_decode.specs.declared.instruction.OpiOp.TheVariants.{Vslideup, Vslidedown, Vrgather, Vrgatherei16, VmvWhole, Vwredsumu, Vwredsum}
use Rattle.rvv_decode.specs.declared.instruction.OpmOp.TheVariants.{Vredsum, Vredand, Vredor, Vredxor, Vredminu, Vredmin, Vredmaxu, Vredmax, Vslide1up, Vslide1down, VmvXS, VmvSX, Vcpop, Vfirst, Vmsbf, Vmsif, Vmsof, Viota, Vid, Vcompress, Vmand, Vmnand, Vmandn, Vmor, Vmnor, Vmorn, Vmxor, Vmxnor}
use Rattle.rvv_decode.specs.declared.instruction.VInstr.{VInstr}
use Rattle.rvv_decode.specs.declared.instruction.VOp.{VOp}
use Rattle.rvv_decode.specs.declared.instruction.VOp.TheVariants.{Opi, Opm, Config, Memory}
use Rattle.vtype_cfg.specs.declared.configuration.Cfg.{Cfg}
use Rattle.vtype_cfg.specs.declared.configuration.Policy.TheVariants.{Keep}
use Rattle.rvv_meaning.specs.Elementwise.{Elementwise}
use Rattle.rvv_meaning.specs.Operations.{Operation, operation_for, on_elements}
use Rattle.rvv_meaning.specs.Vectors.{is_computed, left_as, left_by, left_of}
use Rattle.rvv_meaning.specs.Whole.{Left, elements, number, Leaving, whole_for, makes_number}

-- what is left is a number, or elements
abbrev pub Kind : Bool → Left → Type 0
Kind true l = (n : ℕ) × (l ≡ number n)
Kind false l = (e : Elementwise) × (l ≡ elements e)

-- where an operation has no value of an element, it leaves something as a whole
abbrev KindOf : (op : VOp) → Option Operation → Option Leaving → Type 0
KindOf op (Some o) whole = Unit {0}
KindOf op None (Some leaving) = (i : VInstr) (c : Cfg) (x : ℕ) (v : List (List ℕ)) → Kind (makes_number op) (leaving i c x v)
KindOf op None None = ⊥

opi-kind : (op : OpiOp) → KindOf (Opi op) (operation_for (Opi op)) (whole_for (Opi op))
unfolding operation_for whole_for
opi-kind Vslideup = λ i c x v. (_, refl)
opi-kind Vslidedown = λ i c x v. (_, refl)
opi-kind Vrgather = λ i c x v. (_, refl)
opi-kind Vrgatherei16 = λ i c x v. (_, refl)
opi-kind VmvWhole = λ i c x v. (_, refl)
opi-kind Vwredsumu = λ i c x v. (_, refl)
opi-kind Vwredsum = λ i c x v. (_, refl)
opi-kind _ = tt

opm-kind : (op : OpmOp) → KindOf (Opm op) (operation_for (Opm op)) (whole_for (Opm op))
unfolding operation_for whole_for
opm-kind Vredsum = λ i c x v. (_, refl)
opm-kind Vredand = λ i c x v. (_, refl)
opm-kind Vredor = λ i c x v. (_, refl)
opm-kind Vredxor = λ i c x v. (_, refl)
opm-kind Vredminu = λ i c x v. (_, refl)
opm-kind Vredmin = λ i c x v. (_, refl)
opm-kind Vredmaxu = λ i c x v. (_, refl)
opm-kind Vredmax = λ i c x v. (_, refl)
opm-kind Vslide1up = λ i c x v. (_, refl)
opm-kind Vslide1down = λ i c x v. (_, refl)
opm-kind VmvXS = λ i c x v. (_, refl)
opm-kind VmvSX = λ i c x v. (_, refl)
opm-kind Vcpop = λ i c x v. (_, refl)
opm-kind Vfirst = λ i c x v. (_, refl)
opm-kind Vmsbf = λ i c x v. (_, refl)
opm-kind Vmsif = λ i c x v. (_, refl)
opm-kind Vmsof = λ i c x v. (_, refl)
opm-kind Viota = λ i c x v. (_, refl)
opm-kind Vid = λ i c x v. (_, refl)
opm-kind Vcompress = λ i c x v. (_, refl)
opm-kind Vmand = λ i c x v. (_, refl)
opm-kind Vmnand = λ i c x v. (_, refl)
opm-kind Vmandn = λ i c x v. (_, refl)
opm-kind Vmor = λ i c x v. (_, refl)
opm-kind Vmnor = λ i c x v. (_, refl)
opm-kind Vmorn = λ i c x v. (_, refl)
opm-kind Vmxor = λ i c x v. (_, refl)
opm-kind Vmxnor = λ i c x v. (_, refl)
opm-kind _ = tt

kind-of : (op : VOp) → is_computed op ≡ true → KindOf op (operation_for op) (whole_for op)
kind-of (Opi op) computed = opi-kind op
kind-of (Opm op) computed = opm-kind op
kind-of (Config op) computed = absurd (false≢true computed)
kind-of (Memory op) computed = absurd (false≢true computed)

-- an operation on elements makes no number
opm-elements : (op : OpmOp) (o : Operation) → operation_for (Opm op) ≡ Some o → makes_number (Opm op) ≡ false
unfolding operation_for
opm-elements VmvXS o is = cc
opm-elements Vcpop o is = cc
opm-elements Vfirst o is = cc
opm-elements _ o is = refl

operation-elements : (op : VOp) (o : Operation) → operation_for op ≡ Some o → makes_number op ≡ false
unfolding operation_for
operation-elements (Opi op) o is = refl
operation-elements (Opm op) o is = opm-elements op o is
operation-elements (Config op) o is = refl
operation-elements (Memory op) o is = refl

-- what an instruction leaves that is computed
pub record Computed (i : VInstr) (c : Cfg) (x : ℕ) (v : List (List ℕ)) : Type 0 where
  pub left : Left
  pub is : left_of i c x v ≡ Some left
  pub kind : Kind (makes_number i.op) left

module _ (i : VInstr) (c : Cfg) (x : ℕ) (v : List (List ℕ)) where
  computed-by : (o : Option Operation) (w : Option Leaving) → operation_for i.op ≡ o → whole_for i.op ≡ w → KindOf i.op o w → Computed i c x v
  computed-by (Some o) w is of kind = record {
    left = elements (on_elements i c x o);
    is = rw is refl;
    kind = rw (operation-elements i.op o is) (on_elements i c x o, refl);
  }
  computed-by None (Some leaving) is of kind = record {
    left = leaving i (record c { policy = Keep }) x v;
    is = rw (is, of) refl;
    kind = kind i (record c { policy = Keep }) x v;
  }
  computed-by None None is of kind = absurd kind

  pub computed-left : is_computed i.op ≡ true → Computed i c x v
  computed-left computed = computed-by (operation_for i.op) (whole_for i.op) refl refl (kind-of i.op computed)
