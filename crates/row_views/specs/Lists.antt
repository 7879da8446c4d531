-- The lists of operations.
use Rattle.std.specs.Prelude.{ℕ, zero, suc, ◌+◌, ◌*◌, Bool, true, false, eqb, List, [], ◌∷◌, ◌++◌}
use lib.Dec.{ltb}
use Rattle.micro_ir.specs.declared.op.MicroOp.{MicroOp}
use Rattle.micro_ir.specs.declared.op.MicroOp.TheVariants.{Search, Window, Count, SetNum, UpdateBy}
use Rattle.micro_ir.specs.Subs.{subs_of}
use Rattle.micro_ir.specs.Steps.{micros}
use Rattle.micro_ir.specs.Pieces.{clear}
use Rattle.micro_ir.specs.WorkRows.{active_row, scalar_row}
use Rattle.reduce_tree.specs.declared.weights.How.{How}
use Rattle.reduce_tree.specs.declared.weights.How.TheVariants.{Sum}

-- the subarrays of bit j of each element
abbrev pub lane : (w j : ℕ) → ℕ
lane w j = subs_of w (λ i. eqb i j)

-- the active elements whose bit j of a row is `want`, into the control number
abbrev pub count_bit : (w gate row : ℕ) (want : Bool) → How → (j : ℕ) → List MicroOp
count_bit w gate row want how j = Search (lane w j) ((gate, true) ∷ (row, want) ∷ []) false ∷ Count (lane w j) j how ∷ []

-- the first n bits of a row, the lowest first
unfoldable pub count_bits : (w row : ℕ) (want : Bool) → How → ℕ → List MicroOp
count_bits w row want how zero = []
count_bits w row want how (suc n) = count_bits w row want how n ++ count_bit w active_row row want how n

-- the rows of a group of registers: each one's window, and its bits
unfoldable pub count_rows : (w base per from to : ℕ) (masked : Bool) (want : Bool) → How → ℕ → List MicroOp
count_rows w base per from to masked want how zero = []
count_rows w base per from to masked want how (suc g) =
    count_rows w base per from to masked want how g ++ (Window active_row w (g * per) from to masked ∷ count_bits w (base + g) want how w)

-- the control number into every element of a row
unfoldable pub spread_num : (w row : ℕ) → List MicroOp
spread_num w row = micros w (clear w row ∷ []) ++ (Search (subs_of w (λ j. ltb j w)) [] false ∷ UpdateBy row w ∷ [])

-- what a sum does before its result is committed: the group, element 0 of vs1, and the number into the scalar row
unfoldable pub sum_list : (w base regs per from to : ℕ) (masked : Bool) (vs1 len : ℕ) → List MicroOp
sum_list w base regs per from to masked vs1 len =
    SetNum 0 ∷ (count_rows w base per from to masked true Sum regs
    ++ ((Window active_row w 0 from len false ∷ count_bits w vs1 true Sum w) ++ spread_num w scalar_row))

-- the same with any way to count, from any start
unfoldable pub fold_list : (want : Bool) → How → (start w base regs per from to : ℕ) (masked : Bool) (vs1 len : ℕ) → List MicroOp
fold_list want how start w base regs per from to masked vs1 len =
    SetNum start ∷ (count_rows w base per from to masked want how regs
    ++ ((Window active_row w 0 from len false ∷ count_bits w vs1 want how w) ++ spread_num w scalar_row))
