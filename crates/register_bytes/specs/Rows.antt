-- A row of some subarrays that is written.
use Rattle.std.specs.Prelude.{ℕ, Bool, cond, ◌&&◌, eqb}
use lib.Dec.{ltb, leb}
use Rattle.bit_rows.specs.Slices.{Slices, placed}

-- the slices whose row, in the subarrays from `from` on and below `to`, holds these bits
unfoldable pub bits_written : (from to row : ℕ) → (what : ℕ → ℕ → Bool) → Slices → Slices
bits_written from to row what s = record {
  columns = s.columns;
  bit = λ sub r col. cond (eqb r row) (cond (placed s.columns sub col) (cond (leb from sub && ltb sub to) (what sub col) (s.bit sub r col)) (s.bit sub r col)) (s.bit sub r col);
  tag = s.tag;
  num = s.num;
}
