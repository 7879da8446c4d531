use Rattle.std.proofs.Common.{◌≡◌, ◌+◌, length}
use Rattle.plan_listing.proofs.main.Given as goal

-- there is as much room as at first
abbrev pub invariant-loop-line : goal.invariant-loop-line
invariant-loop-line l =
    (goal.iterator-loop-line).can_next l.line-iterator
    × (goal.iterator-loop-line).is_finite l.line-iterator
    × (length l.buf.ops + l.buf.spare ≡ 262144)
