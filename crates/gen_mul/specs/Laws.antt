-- What the lists do.
use Rattle.std.specs.Prelude.{ℕ, Bool}
use Rattle.micro_ir.specs.declared.place.Place.{Place}
use Rattle.micro_ir.specs.Kinds.{Realises}
use Rattle.row_views.specs.Clips.{ClipsWhere}
use Rattle.gen_mul.specs.declared.kinds.Product.{Product}
use Rattle.gen_mul.specs.Kinds.{product_value, product_ops}
use Rattle.gen_mul.specs.Fractions.{smul_value, smul_clips, smul_ops}

-- The list realises the kind's number, whether the mask is read beside it or not.
abbrev pub RealisesProduct : Product → (w : ℕ) → Place → Type 0
RealisesProduct kind w at = (reads : Bool) → Realises w at.to reads (λ n c. product_value kind w (n at.a) (n at.b) (n at.addend)) (product_ops kind w at)

-- The list realises the product over 2^(w - 1), rounded and clipped, and sets the flag where an active element is clipped.
abbrev pub RealisesSmul : (w : ℕ) → Place → Type 0
RealisesSmul w at = (reads : Bool) → Realises w at.to reads (λ n c. smul_value at.mode w (n at.a) (n at.b)) (smul_ops w at)

abbrev pub ClipsSmul : (w : ℕ) → Place → Type 0
ClipsSmul w at = ClipsWhere w (λ n. smul_clips at.mode w (n at.a) (n at.b)) (smul_ops w at)
