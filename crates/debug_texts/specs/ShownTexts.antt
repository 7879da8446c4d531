-- The answers of a session about what a machine holds: its place, its memory, its slices and its programs.
use Rattle.std.specs.Prelude.{ℕ, ◌+◌, ◌*◌, ◌/◌, ◌%◌, ◌^◌, Bool, true, false, List, ◌++◌, codes, length, Option, Some, None, is_some, slice_index_or, if◌then◌else◌}
use Rattle.std.specs.Fmt.{decimal}
use Rattle.std.specs.List.{flat_map, range_with_len}
use Rattle.bit_laws.specs.Digits.{hex_digits, hex_word}
use Rattle.bit_laws.specs.Numbers.{number}
use Rattle.bit_rows.specs.Slices.{Slices}
use Rattle.code_list.specs.Spelling.{listing}
use Rattle.guest_mem.specs.Pages.{Pages, first_bad, loaded, byte_at}
use Rattle.micro_ir.specs.Listing.{listing_text}
use Rattle.micro_ir.specs.Replay.{tally}
use Rattle.micro_ir.specs.declared.op.MicroOp.{MicroOp}

-- the permission to execute, and the bytes of a word
abbrev pub execute : ℕ
execute = 1

abbrev pub word_size : ℕ
word_size = 4

-- the word at pc, where it can be fetched
abbrev pub word_at : Pages → ℕ → Option ℕ
word_at pages pc = if is_some (first_bad pages execute pc word_size) then None else Some (loaded pages pc word_size)

abbrev pub word_text : Option ℕ → List ℕ
word_text None = codes "unreadable"
word_text (Some word) = listing word

-- the line of the place of a machine that runs: pc, how many instructions retired, and the listing of the word there
unfoldable pub place_line : ℕ → ℕ → Pages → List ℕ
place_line pc retired pages = (codes "at " ++ hex_word pc ++ codes " " ++ decimal retired ++ codes " ") ++ (word_text (word_at pages pc) ++ codes "\n")

-- a byte of memory, or two dashes where its page is not mapped
abbrev pub byte_text : Option ℕ → List ℕ
byte_text None = codes "--"
byte_text (Some byte) = hex_digits 2 byte

-- the bytes of memory from an address on; addresses wrap at 32 bits
unfoldable pub memory_bytes : Pages → ℕ → ℕ → List ℕ
memory_bytes pages address n = flat_map (λ i. byte_text (byte_at pages ((address + i) % 2 ^ 32))) (range_with_len 0 n)

unfoldable pub memory_line : Pages → ℕ → ℕ → List ℕ
memory_line pages address n = codes "mem " ++ hex_word address ++ codes " " ++ memory_bytes pages address n ++ codes "\n"

-- the bits of a row, none past its end
abbrev pub bits_of : List Bool → ℕ → Bool
bits_of row col = slice_index_or row col false

-- how many bytes show so many columns
abbrev pub bytes_for : ℕ → ℕ
bytes_for columns = (columns + 7) / 8

-- byte j of a row: bit b of it is column 8 j + b
abbrev pub row_byte : (ℕ → Bool) → ℕ → ℕ
row_byte bits j = number 8 (λ b. bits (8 * j + b))

abbrev pub row_piece : (ℕ → Bool) → ℕ → List ℕ
row_piece bits j = hex_digits 2 (row_byte bits j)

-- the bytes of a row of so many columns, in rising order
unfoldable pub row_text : ℕ → (ℕ → Bool) → List ℕ
row_text columns bits = flat_map (row_piece bits) (range_with_len 0 (bytes_for columns))

-- the line of a row of a subarray
unfoldable pub slice_line : ℕ → ℕ → Slices → List ℕ
slice_line sub row s = ((codes "slice " ++ decimal sub ++ codes " " ++ decimal row ++ codes " ") ++ row_text s.columns (s.bit sub row)) ++ codes "\n"

-- the line of the tags of a subarray
unfoldable pub tags_line : ℕ → Slices → List ℕ
tags_line sub s = ((codes "tags " ++ decimal sub ++ codes " ") ++ row_text s.columns (s.tag sub)) ++ codes "\n"

-- the line of a row and the tags of a subarray, of the slices after so many operations
unfoldable pub replayed_line : ℕ → ℕ → ℕ → Slices → List ℕ
replayed_line count sub row s =
    ((codes "ustep " ++ decimal count ++ codes " row ") ++ row_text s.columns (s.bit sub row))
    ++ ((codes " tags " ++ row_text s.columns (s.tag sub)) ++ codes "\n")

-- the line of a program: how many operations it has, and how many searches, updates and passes they make
unfoldable pub program_line : List MicroOp → List ℕ
program_line ops =
    codes "micro " ++ decimal (length ops) ++ codes " searches " ++ decimal (tally ops).searches ++ codes " updates " ++ decimal (tally ops).updates ++ codes " passes "
    ++ decimal (tally ops).passes
    ++ codes "\n"

-- the line of one operation of a program, by its place there
unfoldable pub operation_line : ℕ → MicroOp → List ℕ
operation_line k op = (codes "micro " ++ decimal k ++ codes " ") ++ (listing_text op ++ codes "\n")

-- the line of a break that stands now, or that was taken away
abbrev pub on_or_off : Bool → List ℕ
on_or_off true = codes " on\n"
on_or_off false = codes " off\n"

unfoldable pub break_line : ℕ → Bool → List ℕ
break_line address stands = codes "break " ++ hex_word address ++ on_or_off stands

-- the line of a page that was mapped, or was there
abbrev pub on_or_there : Bool → List ℕ
on_or_there true = codes " on\n"
on_or_there false = codes " there\n"

unfoldable pub map_line : ℕ → Bool → List ℕ
map_line address mapped = codes "map " ++ hex_word address ++ on_or_there mapped
