-- The lists of the kinds that count the ones of a mask, or find the first, and what they compute.
use Rattle.std.specs.Prelude.{◌≡◌, ℕ, ◌+◌, ◌*◌, ◌<◌, ◌≤◌, Bool, true, false, cond, not, ◌&&◌, eqb, List, [], ◌∷◌, ◌++◌}
use lib.Dec.{ltb}
use Rattle.bit_rows.specs.Slices.{Slices}
use Rattle.fold_laws.specs.Folds.{any, count, least}
use Rattle.micro_ir.specs.declared.op.MicroOp.{MicroOp}
use Rattle.micro_ir.specs.declared.op.MicroOp.TheVariants.{Search, Count, First, Below}
use Rattle.micro_ir.specs.Pieces.{commit}
use Rattle.micro_ir.specs.Steps.{micros}
use Rattle.micro_ir.specs.Subs.{subs_of}
use Rattle.micro_ir.specs.Replay.{replay}
use Rattle.micro_ir.specs.WorkRows.{active_row, scalar_row, result_row}
use Rattle.reduce_tree.specs.Tags.{no_place}
use Rattle.reduce_tree.specs.declared.weights.How.TheVariants.{Sum}
use Rattle.steer_net.specs.Network.{bit_in}
use Rattle.steer_net.specs.declared.reach.Reach.{Reach}
use Rattle.steer_net.specs.declared.reach.Reach.TheVariants.{Before, Upto, At}

-- the subarrays of every bit
abbrev pub every : ℕ
every = subs_of 1 (λ j. ltb j 1)

-- the active ones of a row
abbrev pub active_ones : ℕ → MicroOp
active_ones row = Search every ((active_row, true) ∷ (row, true) ∷ []) false

abbrev pub cpop_ops : ℕ → List MicroOp
cpop_ops row = active_ones row ∷ Count every 0 Sum ∷ []

abbrev pub first_ops : ℕ → List MicroOp
first_ops row = active_ones row ∷ First ∷ []

-- the bits that stand so to the first active one of a row
abbrev pub prefix_search : ℕ → Reach → List MicroOp
prefix_search row how = active_ones row ∷ First ∷ Below result_row how ∷ []

abbrev pub prefix_ops : ℕ → Reach → (to : ℕ) → List MicroOp
prefix_ops row how to = prefix_search row how ++ micros 1 (commit 1 result_row to)

-- ---- what they compute

-- a set place: an active one
abbrev pub is_set : (row : ℕ) → Slices → ℕ → Bool
is_set row s e = bit_in s active_row e && bit_in s row e

-- The number, and the bits as they were.
pub record Makes (number : ℕ) (s t : Slices) : Type 0 where
  pub num : t.num ≡ number
  pub bit : t.bit ≡ s.bit

-- The list makes the number of the slices, which have fewer places than no place says, from the control number 0.
unfoldable pub MakesNumber : (number : Slices → ℕ) → List MicroOp → Type 0
MakesNumber number ops = (s : Slices) → s.num ≡ 0 → 32 * s.columns ≤ no_place → Makes (number s) s (replay ops s)

-- how many places are set, and the first one
abbrev pub set_count : (row : ℕ) → Slices → ℕ
set_count row s = count (32 * s.columns) (is_set row s)

abbrev pub first_set : (row : ℕ) → Slices → ℕ
first_set row s = least no_place (32 * s.columns) (is_set row s)

-- whether no set place is at or below e, whether none is below e, and whether e is the first
abbrev pub prefix_bit : Reach → (set : ℕ → Bool) → ℕ → Bool
prefix_bit Before set e = not (any (e + 1) set)
prefix_bit Upto set e = not (any e set)
prefix_bit At set e = set e && not (any e set)

-- The list writes these bits into the active places of a register, and leaves the others of it, the other registers, and the
-- rows of active elements, of mask bits and of the scalar.
unfoldable pub MarksPrefix : (row : ℕ) → Reach → (to : ℕ) → List MicroOp → Type 0
MarksPrefix row how to ops =
    (s : Slices) (r e : ℕ) → 32 * s.columns ≤ no_place → r ≤ scalar_row → e < 32 * s.columns
    → bit_in (replay ops s) r e ≡ cond (eqb r to && bit_in s active_row e) (prefix_bit how (is_set row s) e) (bit_in s r e)
