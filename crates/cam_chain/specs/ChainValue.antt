-- What contracts see of a chain.
use Rattle.std.specs.Prelude.{◌≡◌, ℕ, ◌+◌, ◌*◌, ◌<◌, Bool, false, cond, List, [], length, slice_index_or}
use lib.Dec.{ltb}
use Rattle.bit_rows.specs.Slices.{Slices, placed}
use Rattle.cam_chain.specs.declared.counts.Counts.{Counts}
use Rattle.cam_chain.specs.Slices.{matches}

-- The columns, the rows, of which row 64 * sub + row is the row of the subarray, the tags of each subarray, and how
-- many searches, updates and passes were made.
pub record ChainValue : Type 0 where
  pub columns : ℕ
  pub rows : List (List Bool)
  pub tags : List (List Bool)
  pub counts : Counts

-- no search, update or pass
abbrev pub no_counts : Counts
no_counts = record { searches = 0; updates = 0; passes = 0 }

-- bit col of row base + row of the rows, false at a row that no subarray has
abbrev pub row_bit : List (List Bool) → ℕ → ℕ → ℕ → Bool
row_bit rows base row col = cond (ltb row 64) (slice_index_or (slice_index_or rows (base + row) []) col false) false

-- the keys match column `col` of the rows from `base` on
abbrev pub found_at : List (List Bool) → (base : ℕ) → (keys : List (ℕ × Bool)) → (col : ℕ) → Bool
found_at rows base keys col = matches (λ row. row_bit rows base row col) keys

-- the state of the slices, false at a place outside the chain, with the control number 0
unfoldable pub slices_of : ChainValue → Slices
slices_of v = record {
  columns = v.columns;
  bit = λ sub row col. cond (placed v.columns sub col) (row_bit v.rows (sub * 64) row col) false;
  tag = λ sub col. cond (placed v.columns sub col) (slice_index_or (slice_index_or v.tags sub []) col false) false;
  num = 0;
}

-- each row of the list has n bits
abbrev pub EachLong : ℕ → List (List Bool) → Type 0
EachLong n rows = (k : ℕ) → k < length rows → length (slice_index_or rows k []) ≡ n
