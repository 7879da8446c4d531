use Rattle.std.proofs.Common.{◌≡◌, ℕ, ◌<◌, ◌≤◌, [], length, get_or}
use Rattle.cam_chain.proofs.row_moves.copy_rows.Given as goal

abbrev pub invariant-loop-i : goal.invariant-loop-i
invariant-loop-i l =
    (length l.rows ≡ length l.initial.rows)
    × ((k : ℕ) → k < l.i → get_or l.rows k [] ≡ get_or l.from k [])
    × ((k : ℕ) → l.i ≤ k → get_or l.rows k [] ≡ get_or l.initial.rows k [])
