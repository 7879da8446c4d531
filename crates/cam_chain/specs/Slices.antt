-- What a search, an update, a pass and a written word do to the slices. Every write is guarded: a place outside the chain
-- never changes.
use Rattle.std.specs.Prelude.{ℕ, ◌+◌, ◌-◌, Bool, true, cond, ◌&&◌, ◌||◌, eqb, List, [], ◌∷◌}
use Rattle.std.specs.Int.{bit_at}
use lib.Dec.{ltb, leb}
use mathlib.Core.Bool.{beq}
use Rattle.bit_rows.specs.Slices.{Slices, placed}

-- subarray sub is in the set
abbrev pub selected : ℕ → ℕ → Bool
selected subs sub = eqb (bit_at subs sub) 1

-- each key's row has the wanted bit
abbrev pub matches : (ℕ → Bool) → List (ℕ × Bool) → Bool
matches bits [] = true
matches bits (k ∷ ks) = beq (bits k.0) k.1 && matches bits ks

-- In each selected subarray the tags become the match, or are or-ed with it.
abbrev pub searched : ℕ → List (ℕ × Bool) → Bool → Slices → Slices
searched subs keys join s = record {
  columns = s.columns;
  bit = s.bit;
  tag = λ sub col. cond (placed s.columns sub col && selected subs sub) (matches (λ row. s.bit sub row col) keys || (join && s.tag sub col)) (s.tag sub col);
  num = s.num;
}

-- The row of each selected subarray gets the bit in the tagged columns.
abbrev pub updated : ℕ → ℕ → Bool → Slices → Slices
updated subs row bit s = record {
  columns = s.columns;
  bit = λ sub r col. cond (placed s.columns sub col && selected subs sub && eqb r row && s.tag sub col) bit (s.bit sub r col);
  tag = s.tag;
  num = s.num;
}

-- The tags move `times` subarrays up or down; vacated ones become 0 and those that leave the chain are lost.
abbrev pub passed : Bool → ℕ → Slices → Slices
passed up times s = record {
  columns = s.columns;
  bit = s.bit;
  tag = λ sub col. cond (placed s.columns sub col)
      (cond up (leb times sub && s.tag (sub - times) col) (ltb (sub + times) 32 && s.tag (sub + times) col))
      (s.tag sub col);
  num = s.num;
}

-- One column of a row gets the bits of a word, bit s of the word in subarray s.
abbrev pub word_written : ℕ → ℕ → ℕ → Slices → Slices
word_written row at word s = record {
  columns = s.columns;
  bit = λ sub r col. cond (placed s.columns sub col && eqb r row && eqb col at) (eqb (bit_at word sub) 1) (s.bit sub r col);
  tag = s.tag;
  num = s.num;
}
