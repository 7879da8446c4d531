-- A row of slices by the elements that lie in it, one after the other.
use Rattle.std.specs.Prelude.{ℕ, ◌+◌, ◌*◌, Bool, false, cond}
use lib.Dec.{ltb}
use Rattle.bit_rows.specs.Slices.{Slices}
use Rattle.steer_net.specs.Network.{bit_in}

-- element p of each row: its bits at the places below w
unfoldable pub view : (w : ℕ) → Slices → (p r j : ℕ) → Bool
view w s p r j = cond (ltb j w) (bit_in s r (p * w + j)) false
