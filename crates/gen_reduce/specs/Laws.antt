-- What the lists of reductions cost.
use Rattle.std.specs.Prelude.{ℕ}
use Rattle.micro_ir.specs.declared.place.Place.{Place}
use Rattle.row_counts.specs.declared.span.Span.{Span}
use Rattle.row_counts.specs.Costs.{Spends}
use Rattle.row_counts.specs.Spans.{SpanFits}
use Rattle.gen_reduce.specs.declared.kinds.Reduction.{Reduction}
use Rattle.gen_reduce.specs.Kinds.{reduction_ops, reduction_counts, reduction_length}

-- A chain can run the list where the group fits it.
abbrev pub SpendsReduction : Reduction → (w : ℕ) → Place → Span → Type 0
SpendsReduction kind w at span = Spends (reduction_counts kind w span) (reduction_length kind w span) (λ columns. SpanFits w columns span) (reduction_ops kind w at span)
