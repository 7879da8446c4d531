-- What the lists of orders cost.
use Rattle.std.specs.Prelude.{ℕ}
use Rattle.micro_ir.specs.declared.place.Place.{Place}
use Rattle.row_counts.specs.declared.span.Span.{Span}
use Rattle.row_counts.specs.Costs.{Spends}
use Rattle.row_counts.specs.Spans.{SpanFits}
use Rattle.row_orders.specs.declared.orders.Order.{Order}
use Rattle.row_orders.specs.Kinds.{order_ops, order_counts, order_length}

-- A chain can run the list where the group fits it.
abbrev pub SpendsOrder : Order → (w : ℕ) → Place → Span → Type 0
SpendsOrder kind w at span = Spends (order_counts w span) (order_length w span) (λ columns. SpanFits w columns span) (order_ops kind w at span)
