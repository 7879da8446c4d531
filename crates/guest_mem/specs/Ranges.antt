-- The bytes of a range of addresses.
use Rattle.std.specs.Prelude.{ℕ, zero, suc, List, [], ◌∷◌, unwrap_or}
use Rattle.guest_mem.specs.Pages.{Pages, byte_at, next}

-- the n bytes from a on; a byte whose page is not mapped counts as 0
unfoldable pub range_bytes : Pages → ℕ → ℕ → List ℕ
range_bytes pages a zero = []
range_bytes pages a (suc n) = unwrap_or (byte_at pages a) 0 ∷ range_bytes pages (next a) n
