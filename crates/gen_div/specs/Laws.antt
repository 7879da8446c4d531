-- What the lists do.
use Rattle.std.specs.Prelude.{ℕ, Bool}
use Rattle.micro_ir.specs.declared.place.Place.{Place}
use Rattle.micro_ir.specs.Kinds.{Realises}
use Rattle.gen_div.specs.declared.kinds.Division.{Division}
use Rattle.gen_div.specs.Kinds.{division_value, division_ops}

-- The list realises the kind's number, whether the mask is read beside it or not.
abbrev pub RealisesDivision : Division → (w : ℕ) → Place → Type 0
RealisesDivision kind w at = (reads : Bool) → Realises w at.to reads (λ n c. division_value kind w (n at.a) (n at.b)) (division_ops kind w at)
