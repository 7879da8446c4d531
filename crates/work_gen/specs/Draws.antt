-- The numbers that a seed gives: those of a linear congruential generator of 64 bits, of which the high half is drawn
-- (D. Knuth, The Art of Computer Programming, volume 2, section 3.3.4, table 1, line 26).
use Rattle.std.specs.Prelude.{ℕ, zero, suc, ◌+◌, ◌*◌, ◌/◌, ◌%◌, ◌^◌}

abbrev pub multiplier : ℕ
multiplier = 6364136223846793005

abbrev pub increment : ℕ
increment = 1442695040888963407

-- the state after one more draw
unfoldable pub advanced : ℕ → ℕ
advanced state = (state * multiplier + increment) % 2 ^ 64

-- the number of 32 bits that a draw gives, by the state after it
abbrev pub drawn : ℕ → ℕ
drawn state = state / 2 ^ 32

-- the state after some draws
unfoldable pub state_after : ℕ → ℕ → ℕ
state_after zero state = state
state_after (suc draws) state = state_after draws (advanced state)

-- the number that the draw after some draws gives
unfoldable pub draw : ℕ → ℕ → ℕ
draw before state = drawn (advanced (state_after before state))
