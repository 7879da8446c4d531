-- When a list brings the fold of a group of elements, and of element 0 of a register, into the scalar row.
use Rattle.std.specs.Prelude.{◌≡◌, ℕ, ◌*◌, ◌<◌, Bool, not, ◌||◌, List}
use Rattle.bit_laws.specs.Numbers.{low}
use Rattle.bit_rows.specs.Slices.{Slices}
use Rattle.element_ops.specs.Elements.{element_in}
use Rattle.fold_laws.specs.Folds.{fold_chosen}
use Rattle.steer_net.specs.Network.{bit_in}
use Rattle.micro_ir.specs.declared.op.MicroOp.{MicroOp}
use Rattle.micro_ir.specs.Replay.{replay}
use Rattle.row_counts.specs.declared.span.Span.{Span}
use Rattle.row_counts.specs.Puts.{Puts}
use Rattle.row_counts.specs.Spans.{SpanFits}

-- Element e of the group that a register begins, of w bits.
abbrev pub group_element : (w first : ℕ) → Slices → (e : ℕ) → ℕ
group_element w first s e = element_in (32 * s.columns) (bit_in s) first w e

-- whether the mask leaves an element of the span in
abbrev pub is_left_in : Span → Slices → (e : ℕ) → Bool
is_left_in span s e = not span.masked || bit_in s 0 e

-- The fold from element 0 of register b, of `wide` bits, on, of the elements of the span, of w bits, that the mask leaves in,
-- each as `extend` makes it.
abbrev pub fold_of : (step : (a e : ℕ) → ℕ) (extend : ℕ → ℕ) (w wide b : ℕ) → Span → Slices → ℕ
fold_of step extend w wide b span s =
    fold_chosen step (group_element wide b s 0) (is_left_in span s) (λ e. extend (group_element w span.base s e)) span.to

-- What a list leaves: its control number in each element of the scalar row, with the registers as they were; and that number, at
-- `wide` bits, is the fold, where the span is not empty.
pub record Folded (step : (a e : ℕ) → ℕ) (extend : ℕ → ℕ) (w wide b : ℕ) (span : Span) (s t : Slices) : Type 0 where
  pub puts : Puts wide t.num s t
  pub number : 0 < span.to → low wide t.num ≡ low wide (fold_of step extend w wide b span s)

-- It does so from any slices that the span fits, where the window runs from element 0 on.
unfoldable pub Folds : (step : (a e : ℕ) → ℕ) (extend : ℕ → ℕ) (w wide b : ℕ) → Span → List MicroOp → Type 0
Folds step extend w wide b span ops =
    (s : Slices) → SpanFits w s.columns span → span.from ≡ 0 → Folded step extend w wide b span s (replay ops s)
