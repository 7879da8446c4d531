-- Which numbers a program may write into its windows and its fills, for any first element and any length.
use Rattle.std.specs.Prelude.{◌≡◌, ◌<◌, true, max}
use Rattle.frame_laws.specs.Shapes.{Shape, Bounds, Bounded}

-- The windows begin at the first element that may be computed; where the length is 0 they may begin anywhere. The tail begins
-- where the elements end, and not before vstart.
abbrev pub BoundsLaw : Type 0
BoundsLaw =
    (i : Shape) (b : Bounds)
    → (0 < i.len → b.from ≡ max i.vstart i.from) → (i.tail ≡ true → b.until ≡ max i.vstart i.len) → (i.masked ≡ true → b.until ≡ i.len)
    → Bounded i b
