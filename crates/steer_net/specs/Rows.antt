-- How a row is written: which elements become ones, and how far it is written.
use Rattle.std.specs.Prelude.{ℕ, ◌≡◌, ◌+◌, ◌-◌, ◌*◌, ◌/◌, ◌%◌, ◌<◌, Bool, cond, ◌&&◌, eqb, List, slice_index}
use Rattle.std.specs.Int.{bit_at}
use lib.Dec.{ltb, leb}
use Rattle.bit_rows.specs.Slices.{Slices, placed}
use Rattle.bit_rows.specs.Words.{word_bit}
use Rattle.steer_net.specs.declared.windows.Ones.{Ones}
use Rattle.steer_net.specs.Network.{bit_in, top_bit, is_packed}

-- bit e of a register that is held as the words of its columns; 0 past their end
abbrev pub mask_bit : List ℕ → ℕ → Bool
mask_bit words e = eqb (bit_at (slice_index words (e / 32)) (e % 32)) 1

-- element e becomes ones
abbrev pub is_one : Ones → (ℕ → Bool) → ℕ → Bool
is_one ones mask e = cond (leb ones.to e) ones.tail (leb ones.from e && cond (mask e) ones.on ones.off)

-- In the places that are done the row has the new bits.
abbrev pub partly : (ℕ → ℕ → Bool) → ℕ → (ℕ → ℕ → Bool) → Slices → Slices
partly done row new s = record {
  columns = s.columns;
  bit = λ sub r col. cond (eqb r row) (cond (placed s.columns sub col) (cond (done sub col) (new sub col) (s.bit sub r col)) (s.bit sub r col)) (s.bit sub r col);
  tag = s.tag;
  num = s.num;
}

-- the subarrays from `low` on and below `high` of one column
abbrev pub is_between : ℕ → ℕ → ℕ → ℕ → ℕ → Bool
is_between at low high sub col = eqb col at && (leb low sub && ltb sub high)

-- the subarrays from `low` on and below `high`
abbrev pub spans : ℕ → ℕ → ℕ → ℕ → Bool
spans low high sub col = leb low sub && ltb sub high

-- bit i of a row where bits of elements are packed
abbrev pub packed_bit : ℕ → ℕ → ℕ → ℕ → ℕ → Slices → ℕ → Bool
packed_bit from under to width first s i = cond (is_packed under width first s i) (top_bit width s from (i - first)) (bit_in s to i)

-- bit i of the mask, which has none past its end
abbrev pub mask_within : Slices → ℕ → Bool
mask_within s i = ltb i (32 * s.columns) && bit_in s 0 i

-- The words hold the bits of the mask, column by column: the first column's has the number `number`, and each further one a
-- number that is higher by `step`.
abbrev pub HoldsMask : Slices → (words : List ℕ) → (number step : ℕ) → Type 0
HoldsMask s words number step = (c : ℕ) → c < s.columns → number + c * step < 32 * s.columns → word_bit words c ≡ bit_in s 0 (number + c * step)

-- In the words of a subarray, bit c of the column that a packed bit lies in is that bit, and the others stay.
abbrev pub packed_column : (from under width first sub col : ℕ) → Slices → (old : ℕ → Bool) → ℕ → Bool
packed_column from under width first sub col s old c =
    cond (eqb c col && is_packed under width first s (col * 32 + sub)) (top_bit width s from (col * 32 + sub - first)) (old c)
