-- Groups of registers, and the windows of their active elements.
use Rattle.std.specs.Prelude.{◌≡◌, ℕ, ◌+◌, ◌*◌, ◌/◌, ◌<◌, ◌≤◌, true}
use Rattle.row_counts.specs.declared.span.Span.{Span}

-- The registers of a group, and where its elements lie.
pub record IsSpan (span : Span) : Type 0 where
  pub some : 0 < span.regs
  pub few : span.regs ≤ 8
  pub room : span.base + span.regs ≤ 32
  pub per_some : 0 < span.per
  pub per_few : span.per ≤ 8192
  pub to : span.to ≤ span.regs * span.per

-- It is a group of elements of so many bits on slices of so many columns, from element 0 on, and each has a mask bit.
pub record SpanFits (width columns : ℕ) (span : Span) : Type 0 where
  pub group : IsSpan span
  pub per : span.per ≡ columns * (32 / width)
  pub mask : span.masked ≡ true → span.to ≤ 32 * columns
