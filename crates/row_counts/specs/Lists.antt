-- The lists that count the bits of elements, and those that bring the control number into element 0 of a register.
use Rattle.std.specs.Prelude.{ℕ, zero, suc, ◌+◌, ◌-◌, ◌*◌, false, cond, eqb, min, List, [], ◌∷◌, ◌++◌}
use Rattle.micro_ir.specs.declared.op.MicroOp.{MicroOp}
use Rattle.micro_ir.specs.declared.op.MicroOp.TheVariants.{Window}
use Rattle.micro_ir.specs.Steps.{micros}
use Rattle.micro_ir.specs.Pieces.{commit}
use Rattle.micro_ir.specs.WorkRows.{active_row, scalar_row}
use Rattle.reduce_tree.specs.declared.weights.How.{How}
use Rattle.row_views.specs.Lists.{count_bit, spread_num}
use Rattle.row_counts.specs.declared.counts.Counting.{Counting}
use Rattle.row_counts.specs.declared.span.Span.{Span}

-- how the tags of bit j of elements of w bits are taken
abbrev pub how_at : Counting → (w j : ℕ) → How
how_at counting w j = cond (eqb j (w - 1)) counting.top counting.how

-- the first n bits of the active elements of a row, the lowest first
unfoldable pub count_bits : (w row : ℕ) → Counting → ℕ → List MicroOp
count_bits w row counting zero = []
count_bits w row counting (suc n) = count_bits w row counting n ++ count_bit w active_row row counting.wanted (how_at counting w n) n

-- the window of register g of a span
abbrev pub span_window : (w g : ℕ) → Span → MicroOp
span_window w g span = Window active_row w (g * span.per) span.from span.to span.masked

-- the first registers of a span: each one's window, and its bits
unfoldable pub count_rows : (w : ℕ) → Span → Counting → ℕ → List MicroOp
count_rows w span counting zero = []
count_rows w span counting (suc g) = count_rows w span counting g ++ (span_window w g span ∷ count_bits w (span.base + g) counting w)

-- the window of element 0 alone, of a register by itself
abbrev pub first_window : (w : ℕ) → Span → MicroOp
first_window w span = Window active_row w 0 span.from (min 1 span.to) false

-- the bits of element 0 of a register
abbrev pub count_first : (w row : ℕ) → Span → Counting → List MicroOp
count_first w row span counting = first_window w span ∷ count_bits w row counting w

-- the scalar row into element 0 of a register
abbrev pub commit_first : (w : ℕ) → Span → (to : ℕ) → List MicroOp
commit_first w span to = first_window w span ∷ micros w (commit w scalar_row to)

-- the control number into element 0 of a register
abbrev pub first_element : (w : ℕ) → Span → (to : ℕ) → List MicroOp
first_element w span to = spread_num w scalar_row ++ commit_first w span to
