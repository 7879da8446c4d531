-- The operations of the network. A row of elements of `width` bits has 32 / width of them in each column; width 1 numbers
-- the bits. Every operation writes its own row, at places of the chain alone.
use Rattle.std.specs.Prelude.{ℕ, ◌+◌, ◌-◌, ◌*◌, ◌/◌, ◌%◌, ◌<◌, ◌≤◌, Bool, cond, ◌&&◌, ◌||◌, not, eqb}
use lib.Dec.{ltb, leb}
use Rattle.bit_rows.specs.Slices.{Slices, placed}

-- bit i of a register or a row, counted through its columns: bit i mod 32 of column i div 32
abbrev pub bit_in : Slices → ℕ → ℕ → Bool
bit_in s row i = s.bit (i % 32) row (i / 32)

-- which element of its row a bit belongs to
abbrev pub position : ℕ → ℕ → ℕ → ℕ
position width sub col = col * (32 / width) + sub / width

-- Each bit of an element of the row becomes what is said of the element's number; the first one has number `first`.
abbrev pub numbered : ℕ → ℕ → ℕ → (ℕ → Bool) → Slices → Slices
numbered row width first what s = record {
  columns = s.columns;
  bit = λ sub r col. cond (eqb r row) (cond (placed s.columns sub col) (what (first + position width sub col)) (s.bit sub r col)) (s.bit sub r col);
  tag = s.tag;
  num = s.num;
}

-- an element from `from` on and below `to`, whose bit of the mask is 1 where a mask is asked for
abbrev pub is_within : ℕ → ℕ → Bool → (ℕ → Bool) → ℕ → Bool
is_within from to masked mask e = leb from e && ltb e to && (not masked || mask e)

-- an element of the tail, which is from `to` on, where the tail is free; and one from `from` on and below `to` whose bit
-- of the mask is 0, where a mask is asked for and what is off is free
abbrev pub is_free : ℕ → ℕ → Bool → Bool → Bool → (ℕ → Bool) → ℕ → Bool
is_free from to masked tail off mask e = (tail && leb to e) || (off && masked && leb from e && ltb e to && not (mask e))

-- Window: the elements within the bounds. The mask is register 0 as it stands before.
abbrev pub windowed : ℕ → ℕ → ℕ → ℕ → ℕ → Bool → Slices → Slices
windowed row width first from to masked s = numbered row width first (is_within from to masked (bit_in s 0)) s

-- Free: the elements that are free
abbrev pub freed : ℕ → ℕ → ℕ → ℕ → ℕ → Bool → Bool → Bool → Slices → Slices
freed row width first from to masked tail off s = numbered row width first (is_free from to masked tail off (bit_in s 0)) s

-- the highest bit of element p of a row
abbrev pub top_bit : ℕ → Slices → ℕ → ℕ → Bool
top_bit width s row p = bit_in s row (p * width + (width - 1))

-- Bit i of a mask is that of an element of a register whose first element has number `first`, and the highest bit of that
-- element is 1 in the row `under`.
abbrev pub is_packed : ℕ → ℕ → ℕ → Slices → ℕ → Bool
is_packed under width first s i = leb first i && ltb (i - first) (s.columns * (32 / width)) && top_bit width s under (i - first)

-- PackMask: each element whose highest bit in the row `under` is 1 writes its highest bit in the row `from` into the bit of
-- the row `to` that its number names. The rows are as they stand before.
abbrev pub packed : ℕ → ℕ → ℕ → ℕ → ℕ → Slices → Slices
packed from under to width first s = record {
  columns = s.columns;
  bit = λ sub r col.
      cond (eqb r to) (cond (placed s.columns sub col && is_packed under width first s (col * 32 + sub)) (top_bit width s from (col * 32 + sub - first)) (s.bit sub r col)) (s.bit sub r col);
  tag = s.tag;
  num = s.num;
}

-- The bits that the elements of a row name lie in the register.
abbrev pub PackReaches : ℕ → ℕ → ℕ → Type 0
PackReaches columns width first = first + columns * (32 / width) ≤ 32 * columns

-- a width that elements of a row may have
abbrev pub is_width : ℕ → Bool
is_width width = eqb width 1 || eqb width 8 || eqb width 16 || eqb width 32

-- The bits of the mask that elements from `from` on and below `to` of a row name lie in the register.
abbrev pub MaskReaches : ℕ → ℕ → ℕ → ℕ → ℕ → Type 0
MaskReaches columns width first from to = (e : ℕ) → first ≤ e → e < first + columns * (32 / width) → from ≤ e → e < to → e < 32 * columns
