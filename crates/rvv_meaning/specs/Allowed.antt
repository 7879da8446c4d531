-- The law of agnostic elements: what the standard lets a step leave, whatever becomes of them (vector extension 1.0, section
-- 3.4.3).
use Rattle.std.specs.Prelude.{◌≡◌, ℕ, Bool, List}
use Rattle.vtype_cfg.specs.declared.configuration.Policy.TheVariants.{Keep}
use Rattle.rvv_meaning.specs.declared.Meaning.TheVariants.{Scalar, Vector}
use Rattle.rvv_meaning.specs.declared.Next.{Next}
use Rattle.rvv_meaning.specs.declared.Next.TheVariants.{Stop, Perform}
use Rattle.rvv_meaning.specs.States.{Core, next, core_after, vector_effect_at}

-- The vector registers that what comes next may leave: each agnostic element may, by itself, become all ones. All else is
-- determined. The standard permits each of these values.
abbrev pub MayHold : Next → Core → List (List ℕ) → Type 0
MayHold (Stop mode) c v = v ≡ c.vectors
MayHold (Perform (Scalar i)) c v = v ≡ c.vectors
MayHold (Perform (Vector i)) c v = (ones : ℕ → Bool) × (v ≡ (vector_effect_at i c).vectors ones)

-- A step that took these bytes of the input may leave this: what it leaves where agnostic elements are kept, but that each
-- element that is agnostic may, by itself, be all ones.
abbrev pub Allowed : Core → List ℕ → Core → Type 0
Allowed c taken after = MayHold (next c) c after.vectors × (after ≡ record (core_after (record c { policy = Keep }) taken) { vectors = after.vectors; policy = c.policy })
