-- The program headers of an image, and its segments.
use Rattle.std.specs.Prelude.{ℕ, ◌+◌, ◌*◌, ◌==◌, ◌&&◌, nat_lt, Bool, List, map, filter}
use Rattle.std.specs.List.{range_with_len}
use Rattle.elf_load.specs.Fields.{number_at, table_place, header_count}
use Rattle.elf_load.specs.declared.headers.Header.{Header}

-- the program header at a place of the image
abbrev pub header_from : List ℕ → ℕ → Header
header_from image place = record {
  kind = number_at place 4 image;
  offset = number_at (place + 4) 4 image;
  vaddr = number_at (place + 8) 4 image;
  filesz = number_at (place + 16) 4 image;
  memsz = number_at (place + 20) 4 image;
  flags = number_at (place + 24) 4 image;
}

-- the bytes of a program header
abbrev pub header_size : ℕ
header_size = 32

-- the program header of a number, counted from 0
abbrev pub header_at : List ℕ → ℕ → Header
header_at image k = header_from image (table_place image + header_size * k)

unfoldable pub headers : List ℕ → List Header
headers image = map (header_at image) (range_with_len 0 (header_count image))

-- a segment is a header of the type LOAD that takes memory
abbrev pub is_load : Header → Bool
is_load h = h.kind == 1

abbrev pub is_segment : Header → Bool
is_segment h = is_load h && nat_lt 0 h.memsz

unfoldable pub segments : List ℕ → List Header
segments image = filter is_segment (headers image)

-- the first address after a segment
abbrev pub end_of : Header → ℕ
end_of h = h.vaddr + h.memsz
