-- The number of a range's bytes.
use Rattle.std.proofs.Common.{◌≡◌, ℕ, zero, suc, ◌≤◌, refl, arith}
use Rattle.std.specs.Int.{from_le_bytes, w32}
use Rattle.guest_mem.specs.Pages.{Pages, loaded}
use Rattle.guest_mem.specs.Ranges.{range_bytes}

-- what is loaded is the number of a list of up to four bytes
pub from_le_bytes-range_bytes : (pages : Pages) (a n : ℕ) → n ≤ 4 → from_le_bytes w32 (range_bytes pages a n) ≡ loaded pages a n
unfolding loaded range_bytes
from_le_bytes-range_bytes pages a zero few = refl
from_le_bytes-range_bytes pages a (suc zero) few = omega arith
from_le_bytes-range_bytes pages a (suc (suc zero)) few = omega arith
from_le_bytes-range_bytes pages a (suc (suc (suc zero))) few = omega arith
from_le_bytes-range_bytes pages a (suc (suc (suc (suc zero)))) few = omega arith
from_le_bytes-range_bytes pages a (suc (suc (suc (suc (suc n))))) few = absurd (omega arith)
