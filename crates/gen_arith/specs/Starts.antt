-- What is carried into the lowest bit.
use Rattle.std.specs.Prelude.{ℕ, ◌*◌, List, [], ◌∷◌, length}
use Rattle.micro_ir.specs.WorkRows.{mask_row}
use Rattle.gen_arith.specs.declared.steps.Start.{Start}
use Rattle.gen_arith.specs.declared.steps.Start.TheVariants.{Zero, One, Mask, NotMask}

-- the rows that it is made of
abbrev pub rows_from : Start → List ℕ
rows_from Zero = []
rows_from One = []
rows_from Mask = mask_row ∷ []
rows_from NotMask = mask_row ∷ []

-- the values of them that give 1
abbrev pub values_from : Start → List ℕ
values_from Zero = []
values_from One = 0 ∷ []
values_from Mask = 1 ∷ []
values_from NotMask = 0 ∷ []

-- the number of operations that this takes: a search and an update for each value
abbrev pub start_count : Start → ℕ
start_count start = 2 * length (values_from start)
