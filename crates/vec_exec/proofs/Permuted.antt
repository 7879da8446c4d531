-- The instructions that have no program and make no number: their elements are moved.
use Rattle.std.proofs.Common.{◌≡◌, ℕ, true, false, List, refl, sym}
use Rattle.std.specs.Prelude.{is_some}
use Rattle.std.specs.Option.{option_map}
use Rattle.std.proofs.lemmas.Bool.{false≢true}
use Rattle.element_moves.specs.Permutations.{permuted_by}
use Rattle.rvv_decode.specs.declared.instruction.Form.{Form}
use Rattle.rvv_decode.specs.declared.instruction.Form.TheVariants.{V, X, I}
use Rattle.rvv_decode.specs.declared.instruction.OpiOp.{OpiOp}
use Rattle.rvv_decode.specs.declared.instruction.OpiOp.TheVariants.{Vrgather, Vrgatherei16}
use Rattle.rvv_decode.specs.declared.instruction.OpmOp.{OpmOp}
use Rattle.rvv_decode.specs.declared.instruction.OpmOp.TheVariants.{VmvXS, Vcompress, Viota}
use Rattle.rvv_decode.specs.declared.instruction.VInstr.{VInstr}
use Rattle.rvv_decode.specs.declared.instruction.VOp.{VOp}
use Rattle.rvv_decode.specs.declared.instruction.VOp.TheVariants.{Opi, Opm, Config, Memory}
use Rattle.vtype_cfg.specs.declared.configuration.Cfg.{Cfg}
use Rattle.rvv_meaning.specs.Operations.{operation_for}
use Rattle.rvv_meaning.specs.Vectors.{is_computed, left_by}
use Rattle.rvv_meaning.specs.Whole.{whole_for, makes_number}
use Rattle.vec_exec.specs.Programs.{is_engine, is_engine_op, is_opi_engine, is_opm_engine}

-- The operation is a permutation, which leaves what the instruction means.
pub record Permuted (op : VOp) (form : Form) : Type 0 where
  pub some : is_some (permuted_by op form) ≡ true
  pub same : (i : VInstr) (c : Cfg) (x : ℕ) (v : List (List ℕ)) → left_by op i c x v ≡ option_map (λ leaving. leaving i c x v) (permuted_by op form)

opi-permuted : (op : OpiOp) (form : Form) → is_opi_engine op form ≡ false → Permuted (Opi op) form
unfolding operation_for whole_for
opi-permuted Vrgather V apart = record { some = refl; same = λ i c x v. refl }
opi-permuted Vrgather X apart = absurd (false≢true (sym apart))
opi-permuted Vrgather I apart = absurd (false≢true (sym apart))
opi-permuted Vrgatherei16 form apart = record { some = refl; same = λ i c x v. refl }
opi-permuted _ form apart = absurd (false≢true (sym apart))

opm-permuted : (op : OpmOp) (form : Form) → is_opm_engine op ≡ false → makes_number (Opm op) ≡ false → Permuted (Opm op) form
unfolding operation_for whole_for
opm-permuted VmvXS form apart registers = absurd (false≢true (sym registers))
opm-permuted Vcompress form apart registers = record { some = refl; same = λ i c x v. refl }
opm-permuted Viota form apart registers = record { some = refl; same = λ i c x v. refl }
opm-permuted _ form apart registers = absurd (false≢true (sym apart))

by-operation : (op : VOp) (form : Form) → is_computed op ≡ true → is_engine_op op form ≡ false → makes_number op ≡ false → Permuted op form
by-operation (Opi op) form computed apart registers = opi-permuted op form apart
by-operation (Opm op) form computed apart registers = opm-permuted op form apart registers
by-operation (Config op) form computed apart registers = absurd (false≢true computed)
by-operation (Memory op) form computed apart registers = absurd (false≢true computed)

pub permuted : (i : VInstr) → is_computed i.op ≡ true → is_engine i ≡ false → makes_number i.op ≡ false → Permuted i.op i.form
unfolding is_engine
permuted i computed apart registers = by-operation i.op i.form computed apart registers
