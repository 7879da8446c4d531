-- What the lists of orders compute: the fold by the least or the greatest of two elements.
use Rattle.std.specs.Prelude.{ℕ, ◌+◌, cond, int_lt, ◌++◌}
use lib.Dec.{ltb}
use Rattle.bit_laws.specs.Signed.{signed}
use Rattle.micro_ir.specs.WorkRows.{scalar_row}
use Rattle.row_views.specs.Lists.{spread_num}
use Rattle.row_counts.specs.declared.span.Span.{Span}
use Rattle.row_counts.specs.Folds.{Folds}
use Rattle.row_orders.specs.declared.orders.Order.{Order}
use Rattle.row_orders.specs.declared.orders.Order.TheVariants.{Minu, Min, Maxu, Max}
use Rattle.row_orders.specs.Kinds.{start_of, order_list}
use Rattle.row_orders.specs.Lists.{sources}

-- the one of two elements of w bits that is wanted
abbrev pub step_of : Order → (w : ℕ) → (a e : ℕ) → ℕ
step_of Minu w a e = cond (ltb a e) a e
step_of Min w a e = cond (int_lt (signed w a) (signed w e)) a e
step_of Maxu w a e = cond (ltb a e) e a
step_of Max w a e = cond (int_lt (signed w a) (signed w e)) e a

-- What the list of an order does before it writes its register: it brings the wanted one of the elements of the span that the
-- mask leaves in, and of element 0 of row b, into the scalar row.
abbrev pub FoldsOrder : Order → (w b : ℕ) → Span → Type 0
FoldsOrder kind w b span =
    Folds (step_of kind w) (λ e. e) w w b span (order_list w (span.regs + 1) (sources span b) (start_of kind w) ++ spread_num w scalar_row)
