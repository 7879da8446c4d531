-- The lists that find the greatest or the least of some rows' active elements, by candidates: an element is one while its bits
-- agree with the result's. `src` says which rows, and `start` is the control number before the first comparison.
use Rattle.std.specs.Prelude.{ℕ, zero, suc, ◌+◌, ◌-◌, ◌*◌, Bool, true, false, cond, not, min, List, [], ◌∷◌, ◌++◌}
use lib.Dec.{ltb}
use Rattle.bit_laws.specs.Numbers.{bit_of}
use Rattle.micro_ir.specs.declared.op.MicroOp.{MicroOp}
use Rattle.micro_ir.specs.declared.op.MicroOp.TheVariants.{Window}
use Rattle.micro_ir.specs.Steps.{Step, micros}
use Rattle.micro_ir.specs.Pieces.{clear, above, below}
use Rattle.micro_ir.specs.WorkRows.{active_row, free_row, IsOperandRow}
use Rattle.reduce_tree.specs.declared.weights.How.{How}
use Rattle.reduce_tree.specs.declared.weights.How.TheVariants.{Or, Clear}
use Rattle.row_views.specs.Lists.{count_bit, spread_num}
use Rattle.row_counts.specs.declared.span.Span.{Span}
use Rattle.row_orders.specs.declared.sources.Source.{Source}

-- ---- the rows

-- the registers of a group in their order, and then element 0 of a row
abbrev pub sources : Span → (b : ℕ) → ℕ → Source
sources span b i =
    cond (ltb i span.regs) (record { row = span.base + i; first = i * span.per; from = span.from; to = span.to; masked = span.masked })
    (record { row = b; first = 0; from = span.from; to = min 1 span.to; masked = false })

-- a row that may be compared
abbrev pub IsSourceRow : ℕ → Type 0
IsSourceRow r = IsOperandRow r

-- the row of the candidates of row i
abbrev pub cand : ℕ → ℕ
cand i = 38 + i

-- ---- the candidates

-- all active elements at the highest bit
abbrev pub begin_row : (w : ℕ) → Source → (i : ℕ) → List MicroOp
begin_row w r i = Window active_row w r.first r.from r.to r.masked ∷ micros w (clear w (cand i) ∷ above (active_row ∷ []) (1 ∷ []) (cand i) (w - 1) 0 ∷ [])

unfoldable pub begin_rows : (w : ℕ) → (ℕ → Source) → ℕ → List MicroOp
begin_rows w src zero = []
begin_rows w src (suc i) = begin_rows w src i ++ begin_row w (src i) i

-- The candidates that stay, by the start's bit: those whose bit is the other one, and all where the result's bit is the
-- start's. A candidate is the lowest bit of a value, then its bit, and then the result's.
abbrev pub stay_on : Bool → List ℕ
stay_on true = 1 ∷ 5 ∷ 7 ∷ []
stay_on false = 1 ∷ 3 ∷ 7 ∷ []

-- the candidates of a row one bit below
abbrev pub stay_step : (row i : ℕ) (start_bit : Bool) (over : ℕ) → Step
stay_step row i start_bit over = below (cand i ∷ row ∷ free_row ∷ []) (stay_on start_bit) (cand i) over 1

abbrev pub stay : (ℕ → Source) → (start j i : ℕ) → Step
stay src start j i = stay_step ((src i).row) i (bit_of start (j + 1)) (j + 1)

unfoldable pub stay_rows : (w : ℕ) → (ℕ → Source) → (start j : ℕ) → ℕ → List MicroOp
stay_rows w src start j zero = []
stay_rows w src start j (suc i) = stay_rows w src start j i ++ micros w (stay src start j i ∷ [])

unfoldable pub stays_to : (w n : ℕ) → (ℕ → Source) → (start : ℕ) → ℕ → List MicroOp
stays_to w n src start zero = []
stays_to w n src start (suc j) = stay_rows w src start j n

-- ---- the bits

-- what a candidate with the wanted bit makes of the start's bit
abbrev pub how_of : Bool → How
how_of start_bit = cond start_bit Clear Or

unfoldable pub compare_rows : (w : ℕ) → (ℕ → Source) → (start j : ℕ) → ℕ → List MicroOp
compare_rows w src start j zero = []
compare_rows w src start j (suc i) = compare_rows w src start j i ++ count_bit w (cand i) ((src i).row) (not (bit_of start j)) (how_of (bit_of start j)) j

-- a bit of the result, and the candidates that it leaves
abbrev pub order_bit : (w n : ℕ) → (ℕ → Source) → (start j : ℕ) → List MicroOp
order_bit w n src start j = compare_rows w src start j n ++ (spread_num w free_row ++ stays_to w n src start j)

-- the bits below j, from the top one down
unfoldable pub order_bits : (w n : ℕ) → (ℕ → Source) → (start : ℕ) → ℕ → List MicroOp
order_bits w n src start zero = []
order_bits w n src start (suc j) = order_bit w n src start j ++ order_bits w n src start j

-- ---- lengths

abbrev pub stays_length : Span → (j : ℕ) → ℕ
stays_length span j = cond (ltb 0 j) (5 * (span.regs + 1)) 0

abbrev pub bit_length : Span → (j : ℕ) → ℕ
bit_length span j = 2 * (span.regs + 1) + 4 + stays_length span j

unfoldable pub bits_length : Span → ℕ → ℕ
bits_length span zero = 0
bits_length span (suc j) = bit_length span j + bits_length span j
