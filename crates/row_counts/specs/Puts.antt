-- When a list brings a number into every element of the scalar row.
use Rattle.std.specs.Prelude.{◌≡◌, ℕ, ◌*◌, ◌<◌}
use Rattle.bit_laws.specs.Numbers.{bit_of}
use Rattle.bit_rows.specs.Slices.{Slices}
use Rattle.steer_net.specs.Moves.{per_row}
use Rattle.steer_net.specs.Network.{bit_in}
use Rattle.micro_ir.specs.WorkRows.{scalar_row}
use Rattle.row_views.specs.Views.{view}

-- The registers stay, and each element of w bits of the scalar row is the number.
pub record Puts (w x : ℕ) (s t : Slices) : Type 0 where
  pub columns : t.columns ≡ s.columns
  pub kept : (r at : ℕ) → r < 32 → at < 32 * s.columns → bit_in t r at ≡ bit_in s r at
  pub scalar : (p b : ℕ) → p < per_row w s → b < w → view w t p scalar_row b ≡ bit_of x b
