-- The vector registers that the slices hold.
use Rattle.std.specs.Prelude.{◌≡◌, ℕ, ◌+◌, ◌*◌, ◌/◌, ◌%◌, ◌≤◌, List}
use Rattle.bit_laws.specs.Numbers.{number}
use Rattle.bit_laws.specs.Lists.{tabulate}
use Rattle.bit_rows.specs.Slices.{Slices}

-- byte j of register r: its bit b is the bit of subarray 8 (j mod 4) + b, row r, column j div 4
abbrev pub register_byte : Slices → ℕ → ℕ → ℕ
register_byte s r j = number 8 (λ b. s.bit (8 * (j % 4) + b) r (j / 4))

-- the bytes of a register
abbrev pub register_of : Slices → ℕ → List ℕ
register_of s r = tabulate (4 * s.columns) (register_byte s r)

-- the 32 registers
unfoldable pub registers_of : Slices → List (List ℕ)
registers_of s = tabulate 32 (register_of s)

-- all but the registers is as it was: the columns, the rows after the last register, the tags and the control number
pub record KeepsRest (s t : Slices) : Type 0 where
  pub columns : t.columns ≡ s.columns
  pub tags : (sub col : ℕ) → t.tag sub col ≡ s.tag sub col
  pub num : t.num ≡ s.num
  pub rows : (sub row col : ℕ) → 32 ≤ row → t.bit sub row col ≡ s.bit sub row col
