-- The numbers that stand in an image (System V ABI, chapters 4 and 5, class 32, lowest byte first).
use Rattle.std.specs.Prelude.{ℕ, List, drop}
use Rattle.byteorder.specs.Endian.{little_number}

-- the number in `size` bytes from a place of the image; bytes past the end count as 0
unfoldable pub number_at : ℕ → ℕ → List ℕ → ℕ
number_at place size image = little_number size (drop place image)

-- the fields of the header that a loader reads
abbrev pub file_type : List ℕ → ℕ
file_type image = number_at 16 2 image

abbrev pub machine_type : List ℕ → ℕ
machine_type image = number_at 18 2 image

abbrev pub version : List ℕ → ℕ
version image = number_at 20 4 image

abbrev pub entry : List ℕ → ℕ
entry image = number_at 24 4 image

abbrev pub table_place : List ℕ → ℕ
table_place image = number_at 28 4 image

abbrev pub header_flags : List ℕ → ℕ
header_flags image = number_at 36 4 image

abbrev pub entry_size : List ℕ → ℕ
entry_size image = number_at 42 2 image

abbrev pub header_count : List ℕ → ℕ
header_count image = number_at 44 2 image
