-- What is laid out of an image: its segments, the stack and the heap, and the pages that they meet.
use Rattle.std.specs.Prelude.{ℕ, ◌+◌, ◌-◌, ◌*◌, ◌/◌, ◌%◌, ◌^◌, ◌==◌, ◌&&◌, ◌||◌, not, nat_lt, nat_le, if◌then◌else◌, min, max, Bool, true, List, [], ◌∷◌, ◌++◌, length, take, drop, map, count_by, bit_or}
use Rattle.std.specs.List.{list_any, list_all, range_with_len}
use Rattle.guest_mem.specs.declared.regions.Region.{Region}
use Rattle.guest_mem.specs.declared.permissions.Perms.{Perms}
use Rattle.guest_mem.specs.declared.spans.Span.{Span}
use Rattle.guest_mem.specs.Pages.{page_size}
use Rattle.guest_mem.specs.Spans.{page_numbers, meets, is_mapped}
pub use Rattle.guest_mem.specs.Spans.{span_of}
use Rattle.elf_load.specs.Headers.{segments, end_of}
use Rattle.elf_load.specs.declared.headers.Header.{Header}

-- the stack, and the end of what segments and heap may take
abbrev pub stack_start : ℕ
stack_start = 0x7ff00000

abbrev pub stack_end : ℕ
stack_end = 0x80000000

abbrev pub top : ℕ
top = 0xfffff000

-- the most that the heap takes: 16 MiB
abbrev pub heap_size : ℕ
heap_size = 2 ^ 24

-- permissions by their bits: 1 execute, 2 write, 4 read
abbrev pub perms_of : ℕ → Perms
perms_of bits = record { 0 = bits }

-- the permissions to read and to write
abbrev pub read_write : Perms
read_write = perms_of 6

-- the end of the segment that ends highest
unfoldable pub highest_end : List Header → ℕ
highest_end [] = 0
highest_end (h ∷ hs) = max (end_of h) (highest_end hs)

abbrev pub rounded_up : ℕ → ℕ
rounded_up n = (n + (page_size - 1)) / page_size * page_size

-- the first page's start after all segments
unfoldable pub start_after : List Header → ℕ
start_after hs = rounded_up (highest_end hs)

-- the heap starts after all segments, at a page's start
unfoldable pub heap_start : List ℕ → ℕ
heap_start image = start_after (segments image)

-- what a heap that starts there may not pass: the stack where it starts below it, and else the top
abbrev pub heap_bound : ℕ → ℕ
heap_bound start = if nat_le start stack_start then stack_start else top

-- where a heap that starts there ends
abbrev pub heap_limit : ℕ → ℕ
heap_limit start = min (start + heap_size) (heap_bound start)

unfoldable pub heap_end : List ℕ → ℕ
heap_end image = heap_limit (heap_start image)

-- the permissions of a segment are the low three bits of its flags
abbrev pub segment_span : Header → Span
segment_span h = record { start = h.vaddr; len = h.memsz; perms = perms_of (h.flags % 8) }

abbrev pub stack_span : Span
stack_span = record { start = stack_start; len = stack_end - stack_start; perms = read_write }

-- the heap that starts there
abbrev pub heap_at : ℕ → Span
heap_at start = record { start = start; len = heap_limit start - start; perms = read_write }

abbrev pub heap_span : List ℕ → Span
heap_span image = heap_at (heap_start image)

-- all that is mapped for segments
unfoldable pub mapped_spans : List Header → List Span
mapped_spans hs = map segment_span hs ++ stack_span ∷ heap_at (start_after hs) ∷ []

-- all that is mapped of an image
unfoldable pub spans : List ℕ → List Span
spans image = mapped_spans (segments image)

-- how many numbers below n pass a test
unfoldable pub count_below : ℕ → (ℕ → Bool) → ℕ
count_below n test = count_by test (range_with_len 0 n)

-- how many pages are mapped
unfoldable pub page_count : List Span → ℕ
page_count ss = count_below page_numbers (is_mapped ss)

-- how many pages a range meets that none of the ranges before it does
unfoldable pub pages_added : List Span → Span → ℕ
pages_added ss s = count_below page_numbers (λ page. meets page s && not (is_mapped ss page))

-- the bytes that the file holds of a segment
abbrev pub segment_bytes : List ℕ → Header → List ℕ
segment_bytes image h = take h.filesz (drop h.offset image)

-- a range of memory with the bytes from its start on
abbrev pub region_of : Span → List ℕ → Region
region_of s bytes = record { start = s.start; len = s.len; perms = s.perms; bytes = bytes }

abbrev pub segment_region : List ℕ → Header → Region
segment_region image h = region_of (segment_span h) (segment_bytes image h)

-- the regions that a memory is made of
unfoldable pub regions : List ℕ → List Region
regions image = map (segment_region image) (segments image) ++ region_of stack_span [] ∷ region_of (heap_span image) [] ∷ []

-- two ranges share no byte
abbrev pub apart : Span → Span → Bool
apart a b = nat_le (a.start + a.len) b.start || nat_le (b.start + b.len) a.start || (a.len == 0) || (b.len == 0)

-- no two ranges share a byte
unfoldable pub all_apart : List Span → Bool
all_apart [] = true
all_apart (s ∷ ss) = list_all (apart s) ss && all_apart ss

-- no range wraps at 32 bits
abbrev pub ends_inside : Span → Bool
ends_inside s = nat_le (s.start + s.len) (2 ^ 32)

abbrev pub none_wraps : List Span → Bool
none_wraps ss = list_all ends_inside ss

-- no region has more bytes than its length
abbrev pub region_fits : Region → Bool
region_fits r = nat_le (length r.bytes) r.len

abbrev pub bytes_fit : List Region → Bool
bytes_fit rs = list_all region_fits rs
