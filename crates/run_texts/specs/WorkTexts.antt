-- The text about the work rows and the tags of the slices.
use Rattle.std.specs.Prelude.{ℕ, zero, suc, ◌+◌, ◌*◌, ◌/◌, Bool, true, false, List, ◌++◌, codes}
use Rattle.std.specs.Fmt.{decimal}
use Rattle.std.specs.List.{flat_map, range_with_len}
use Rattle.bit_rows.specs.Slices.{Slices}
use Rattle.bit_laws.specs.Digits.{hex_digits}

-- a bit as a number
abbrev pub flag : Bool → ℕ
flag true = 1
flag false = 0

-- the number of n bits from a place on, the lowest first
unfoldable pub bits_number : ℕ → (ℕ → Bool) → ℕ → ℕ
bits_number zero bit place = 0
bits_number (suc n) bit place = flag (bit place) + 2 * bits_number n bit (place + 1)

-- Bit b of byte j is that of column 8 * j + b.
abbrev pub bits_byte : (ℕ → Bool) → ℕ → List ℕ
bits_byte bit j = hex_digits 2 (bits_number 8 bit (8 * j))

-- the bytes of a row of so many columns in rising order, rounded up
abbrev pub bytes_for : ℕ → ℕ
bytes_for columns = (columns + 7) / 8

unfoldable pub bits_text : ℕ → (ℕ → Bool) → List ℕ
bits_text columns bit = flat_map (bits_byte bit) (range_with_len 0 (bytes_for columns))

-- the line of a row, and that of the tags, of a subarray
abbrev pub slice_line : Slices → ℕ → ℕ → List ℕ
slice_line s sub row =
    (codes "slice " ++ decimal sub ++ codes " " ++ decimal row ++ codes " ") ++ (bits_text s.columns (s.bit sub row) ++ codes "\n")

abbrev pub tags_line : Slices → ℕ → List ℕ
tags_line s sub = (codes "tags " ++ decimal sub ++ codes " ") ++ (bits_text s.columns (s.tag sub) ++ codes "\n")

-- The work rows are those from 32 to 57.
abbrev pub first_work_row : ℕ
first_work_row = 32

abbrev pub work_rows : ℕ
work_rows = 26

abbrev pub subarrays : ℕ
subarrays = 32

-- the lines of the work rows of a subarray, and of its tags
unfoldable pub slice_lines : Slices → ℕ → List ℕ
slice_lines s sub = flat_map (slice_line s sub) (range_with_len first_work_row work_rows)

abbrev pub subarray_text : Slices → ℕ → List ℕ
subarray_text s sub = slice_lines s sub ++ tags_line s sub

-- those of all subarrays
unfoldable pub work_text : Slices → List ℕ
work_text s = flat_map (subarray_text s) (range_with_len 0 subarrays)
