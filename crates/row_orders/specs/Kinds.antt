-- The lists of the four orders: the number to start from makes each.
use Rattle.std.specs.Prelude.{ℕ, ◌+◌, ◌-◌, ◌*◌, ◌^◌, List, ◌∷◌, ◌++◌}
use Rattle.cam_chain.specs.declared.counts.Counts.{Counts}
use Rattle.micro_ir.specs.declared.op.MicroOp.{MicroOp}
use Rattle.micro_ir.specs.declared.op.MicroOp.TheVariants.{SetNum}
use Rattle.micro_ir.specs.declared.place.Place.{Place}
use Rattle.micro_ir.specs.Measures.{counts}
use Rattle.row_counts.specs.declared.span.Span.{Span}
use Rattle.row_counts.specs.Lists.{first_element}
use Rattle.row_orders.specs.declared.orders.Order.{Order}
use Rattle.row_orders.specs.declared.orders.Order.TheVariants.{Minu, Min, Maxu, Max}
use Rattle.row_orders.specs.declared.sources.Source.{Source}
use Rattle.row_orders.specs.Lists.{sources, begin_rows, order_bits}

-- the number that every other one comes before
abbrev pub start_of : Order → (w : ℕ) → ℕ
start_of Minu w = 2 ^ w - 1
start_of Min w = 2 ^ (w - 1) - 1
start_of Maxu w = 0
start_of Max w = 2 ^ (w - 1)

-- what brings the number into the control number
unfoldable pub order_list : (w n : ℕ) → (ℕ → Source) → (start : ℕ) → List MicroOp
order_list w n src start = SetNum start ∷ (begin_rows w src n ++ order_bits w n src start w)

-- the list of an order
abbrev pub order_ops : Order → (w : ℕ) → Place → Span → List MicroOp
order_ops kind w at span = order_list w (span.regs + 1) (sources span at.b) (start_of kind w) ++ first_element w span at.to

-- its searches, updates and passes for n rows, and the number of its operations
abbrev pub order_counts : (w : ℕ) → Span → Counts
order_counts w span = let n = span.regs + 1 in counts (n * (4 * w - 1) + 2 * w + 4) (n * (w + 1) + 2 * w + 4) (n * (w - 1))

abbrev pub order_length : (w : ℕ) → Span → ℕ
order_length w span = w * (7 * (span.regs + 1) + 4) + 10
