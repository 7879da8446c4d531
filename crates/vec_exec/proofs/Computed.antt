-- What has a program and no recipe is planned as a whole.
use Rattle.std.proofs.Common.{◌≡◌, Bool, true, false, None, refl, sym, ap}
use Rattle.std.specs.Prelude.{is_some}
use Rattle.std.specs.Option.{option_map_or}
use Rattle.std.proofs.lemmas.Bool.{false≢true}
use Rattle.rvv_decode.specs.declared.instruction.OpmOp.{OpmOp}
use Rattle.rvv_decode.specs.declared.instruction.OpiOp.{OpiOp}
use Rattle.rvv_decode.specs.declared.instruction.OpiOp.TheVariants.{Vslideup, Vslidedown, Vrgather, Vrgatherei16, VmvWhole, Vwredsumu, Vwredsum}
use Rattle.rvv_decode.specs.declared.instruction.OpmOp.TheVariants.{VmvXS, VmvSX, Vcompress, Viota, Vid, Vmand, Vmnand, Vmandn, Vmor, Vmnor, Vmorn, Vmxor, Vmxnor, Vmsbf, Vmsif, Vmsof, Vslide1up, Vslide1down, Vcpop, Vfirst, Vredsum, Vredand, Vredor, Vredxor, Vredminu, Vredmin, Vredmaxu, Vredmax}
use Rattle.rvv_decode.specs.declared.instruction.Form.{Form}
use Rattle.rvv_decode.specs.declared.instruction.Form.TheVariants.{V, X, I}
use Rattle.rvv_decode.specs.declared.instruction.VInstr.{VInstr}
use Rattle.rvv_decode.specs.declared.instruction.VOp.{VOp}
use Rattle.rvv_decode.specs.declared.instruction.VOp.TheVariants.{Opi, Opm, Config, Memory}
use Rattle.vec_exec.specs.Programs.{is_engine, is_engine_op, is_opi_engine, is_opm_engine}
use Rattle.fold_exec.specs.Kinds.{kind_for as fold_for, opm_kind}
use Rattle.move_exec.specs.Kinds.{kind_for, has_program}
use Rattle.vec_exec.specs.Recipes.{recipe_for}

-- whether an operation is of a kind that is planned as a whole: one that moves elements, and has a program in the form, or
-- one that makes a number
abbrev pub is_whole : VOp → Form → Bool
is_whole op form = option_map_or (λ kind. has_program kind form) (kind_for op) (is_some (fold_for op))

opi-whole : (op : OpiOp) (form : Form) → is_some (recipe_for (Opi op)) ≡ false → is_opi_engine op form ≡ true → is_whole (Opi op) form ≡ true
unfolding recipe_for kind_for fold_for
opi-whole Vslideup form none runs = refl
opi-whole Vslidedown form none runs = refl
opi-whole Vrgather V none runs = absurd (false≢true runs)
opi-whole Vrgather X none runs = refl
opi-whole Vrgather I none runs = refl
opi-whole Vrgatherei16 form none runs = absurd (false≢true runs)
opi-whole VmvWhole form none runs = refl
opi-whole Vwredsumu form none runs = refl
opi-whole Vwredsum form none runs = refl
opi-whole _ form none runs = absurd (false≢true (sym none))

opm-whole : (op : OpmOp) (form : Form) → is_some (recipe_for (Opm op)) ≡ false → is_opm_engine op ≡ true → is_whole (Opm op) form ≡ true
unfolding recipe_for kind_for fold_for opm_kind
opm-whole VmvXS form none runs = absurd (false≢true runs)
opm-whole Vcompress form none runs = absurd (false≢true runs)
opm-whole Viota form none runs = absurd (false≢true runs)
opm-whole VmvSX form none runs = refl
opm-whole Vid form none runs = refl
opm-whole Vmand form none runs = refl
opm-whole Vmnand form none runs = refl
opm-whole Vmandn form none runs = refl
opm-whole Vmor form none runs = refl
opm-whole Vmnor form none runs = refl
opm-whole Vmorn form none runs = refl
opm-whole Vmxor form none runs = refl
opm-whole Vmxnor form none runs = refl
opm-whole Vmsbf form none runs = refl
opm-whole Vmsif form none runs = refl
opm-whole Vmsof form none runs = refl
opm-whole Vslide1up form none runs = refl
opm-whole Vslide1down form none runs = refl
opm-whole Vcpop form none runs = refl
opm-whole Vfirst form none runs = refl
opm-whole Vredsum form none runs = refl
opm-whole Vredand form none runs = refl
opm-whole Vredor form none runs = refl
opm-whole Vredxor form none runs = refl
opm-whole Vredminu form none runs = refl
opm-whole Vredmin form none runs = refl
opm-whole Vredmaxu form none runs = refl
opm-whole Vredmax form none runs = refl
opm-whole _ form none runs = absurd (false≢true (sym none))

whole-op : (op : VOp) (form : Form) → is_some (recipe_for op) ≡ false → is_engine_op op form ≡ true → is_whole op form ≡ true
whole-op (Opi op) form none runs = opi-whole op form none runs
whole-op (Opm op) form none runs = opm-whole op form none runs
whole-op (Config op) form none runs = absurd (false≢true runs)
whole-op (Memory op) form none runs = absurd (false≢true runs)

pub whole-when-planned : (i : VInstr) → is_engine i ≡ true → recipe_for i.op ≡ None → is_whole i.op i.form ≡ true
unfolding is_engine
whole-when-planned i runs none = whole-op i.op i.form (ap is_some none) runs
