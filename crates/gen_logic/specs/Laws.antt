-- What the list of a kind does, with the rows of a place.
use Rattle.std.specs.Prelude.{ℕ, Bool, ◌||◌}
use Rattle.micro_ir.specs.Kinds.{Realises, RealisesBits}
use Rattle.micro_ir.specs.WorkRows.{mask_row}
use Rattle.micro_ir.specs.declared.place.Place.{Place}
use Rattle.gen_logic.specs.declared.kinds.Logic.{Logic}
use Rattle.gen_logic.specs.Recipes.{logic_ops}
use Rattle.gen_logic.specs.Values.{takes_mask, truth_of, value_of}

-- It realises the kind's number, whether the mask is read beside it or not; where the mask is an operand, it is read.
abbrev pub RealisesLogic : Logic → (w : ℕ) → Place → Type 0
RealisesLogic kind w at = (reads : Bool) → Realises w at.to (takes_mask kind || reads) (λ n m. value_of kind w (n at.a) (n at.b) m) (logic_ops kind w at)

-- It realises the kind bit by bit.
abbrev pub RealisesLogicBits : Logic → (w : ℕ) → Place → Type 0
RealisesLogicBits kind w at = RealisesBits w at.to (λ n. truth_of kind (n mask_row) (n at.a) (n at.b)) (logic_ops kind w at)
