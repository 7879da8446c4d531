-- Registers of which one is written whole.
use Rattle.std.specs.Prelude.{ℕ, cond, eqb, List, slice_index}
use Rattle.element_ops.specs.Elements.{with_bytes, byte_at}

-- the registers whose register r holds these bytes; the others stay
unfoldable pub with_register : List (List ℕ) → (r : ℕ) → List ℕ → List (List ℕ)
with_register v r bytes = with_bytes v (λ q j. cond (eqb q r) (slice_index bytes j) (byte_at v q j))
