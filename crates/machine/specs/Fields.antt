-- What is known of an instruction that is to be carried out.
use Rattle.std.specs.Prelude.{◌≡◌, ⊤, true}
use Rattle.rv32_decode.specs.Spelling.{IsSpelled}
use Rattle.rvv_decode.specs.Ranges.{IsInRange}
use Rattle.rvv_decode.specs.declared.instruction.VInstr.{VInstr}
use Rattle.vtype_cfg.specs.Legality.{is_legal}
use Rattle.rvv_meaning.specs.declared.Meaning.{Meaning}
use Rattle.rvv_meaning.specs.declared.Meaning.TheVariants.{Scalar, Vector}
use Rattle.rvv_meaning.specs.declared.Next.{Next}
use Rattle.rvv_meaning.specs.declared.Next.TheVariants.{Stop, Perform}
use Rattle.rvv_meaning.specs.States.{Core, vtype_at}

-- a vector instruction that a machine can carry out: its fields are as large as a word lets them be, and it is legal
pub record VectorFits (c : Core) (i : VInstr) : Type 0 where
  pub fields : IsInRange i
  pub legal : is_legal i (vtype_at c) c.csrs.vstart ≡ true

-- a scalar instruction is that of some word
abbrev pub FieldsFit : Core → Meaning → Type 0
FieldsFit c (Scalar i) = IsSpelled i
FieldsFit c (Vector i) = VectorFits c i

abbrev pub NextFits : Core → Next → Type 0
NextFits c (Stop mode) = ⊤
NextFits c (Perform m) = FieldsFit c m
