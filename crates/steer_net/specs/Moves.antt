-- The operations of the network that move elements between columns, or number them. Element p of a row of `width` bits has
-- its bits in column p div (32 / width). Every operation writes its own row alone, by the slices as they stand before.
use Rattle.std.specs.Prelude.{ℕ, ◌+◌, ◌-◌, ◌*◌, ◌/◌, ◌%◌, ◌≤◌, Bool, cond, ◌&&◌, ◌||◌, eqb}
use Rattle.std.specs.Int.{bit_at}
use lib.Dec.{ltb, leb}
use Rattle.bit_rows.specs.Slices.{Slices, placed}
use Rattle.steer_net.specs.Network.{bit_in, position}
use Rattle.steer_net.specs.declared.reach.Reach.{Reach}
use Rattle.steer_net.specs.declared.reach.Reach.TheVariants.{Before, Upto, At}

-- Bit j of element p of the row becomes what is said of p and j. Every other row stays, and so does all outside the chain.
abbrev pub rewritten : (row width : ℕ) → (what : (p j : ℕ) → Bool) → Slices → Slices
rewritten row width what s = record {
  columns = s.columns;
  bit = λ sub r col. cond (eqb r row) (cond (placed s.columns sub col) (what (position width sub col) (sub % width)) (s.bit sub r col)) (s.bit sub r col);
  tag = s.tag;
  num = s.num;
}

-- how many elements a register has
abbrev pub per_row : (width : ℕ) → Slices → ℕ
per_row width s = s.columns * (32 / width)

-- how many bits a register has
abbrev pub row_bits : Slices → ℕ
row_bits s = 32 * s.columns

-- ---- widths

-- Spread: an element of the row gets the one of its part of the other row, which is narrower, and zeros above it.
abbrev pub widened : (from to narrow wide part : ℕ) → Slices → Slices
widened from to narrow wide part s = rewritten to wide (λ p j. ltb j narrow && bit_in s from ((part * per_row wide s + p) * narrow + j)) s

-- the element belongs to the part of a row that so many elements fill
abbrev pub in_part : (part count e : ℕ) → Bool
in_part part count e = leb (part * count) e && ltb e ((part + 1) * count)

-- Narrow: an element of the part, which is half as wide, gets the low half of the one of the other row. The others stay.
abbrev pub narrowed : (from to wide part : ℕ) → Slices → Slices
narrowed from to wide part s = rewritten to (wide / 2) (λ e j.
    cond (in_part part (per_row wide s) e) (bit_in s from ((e - part * per_row wide s) * wide + j)) (bit_in s to (e * (wide / 2) + j))) s

-- a width that has a half which elements of a row may have
abbrev pub is_wide : ℕ → Bool
is_wide wide = eqb wide 16 || eqb wide 32

-- ---- groups of registers

-- bit i of the registers from `base` on, one after the other
abbrev pub bit_in_group : Slices → (base i : ℕ) → Bool
bit_in_group s base i = bit_in s (base + i / row_bits s) (i % row_bits s)

-- bit j of element q of the group, or 0 from `limit` on
abbrev pub limited : Slices → (base width limit q j : ℕ) → Bool
limited s base width limit q j = ltb q limit && bit_in_group s base (q * width + j)

-- The registers of the group that elements below the limit lie in are below 32.
abbrev pub GroupReaches : (columns base width limit : ℕ) → Type 0
GroupReaches columns base width limit = limit ≤ (32 - base) * (columns * (32 / width))

-- bit j of the element of the group that lies `by` places below element e, or above it; 0 where there is none
abbrev pub slid_bit : Slices → (base width : ℕ) → (up : Bool) → (by limit e j : ℕ) → Bool
slid_bit s base width up by limit e j = cond up (leb by e && limited s base width limit (e - by) j) (limited s base width limit (e + by) j)

-- Slide: the elements of the row, whose first one has number `first`, get those of the group that lie so many places off.
abbrev pub slid : (to base width first : ℕ) → (up : Bool) → (by limit : ℕ) → Slices → Slices
slid to base width first up by limit s = rewritten to width (λ p j. slid_bit s base width up by limit (first + p) j) s

-- Pick: each element gets the one element of the group.
abbrev pub picked : (to base width index limit : ℕ) → Slices → Slices
picked to base width index limit s = rewritten to width (λ p j. limited s base width limit index j) s

-- ---- numbers of elements

-- Index: each element gets its number, modulo 2 to the power of its width.
abbrev pub indexed : (to width first : ℕ) → Slices → Slices
indexed to width first s = rewritten to width (λ p j. eqb (bit_at (first + p) j) 1) s

-- how the number of an element stands to the control number
abbrev pub reaches : Reach → (num e : ℕ) → Bool
reaches Before num e = ltb e num
reaches Upto num e = leb e num
reaches At num e = eqb e num

-- each bit of the row tells how its number stands to this one
abbrev pub marked : (to : ℕ) → Reach → (num : ℕ) → Slices → Slices
marked to how num s = rewritten to 1 (λ e j. reaches how num e) s

-- Below: each bit of the row tells how its number stands to the control number.
abbrev pub marked_below : (to : ℕ) → Reach → Slices → Slices
marked_below to how s = marked to how s.num s
