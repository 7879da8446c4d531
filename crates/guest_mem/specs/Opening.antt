-- The memory of a list of regions: the pages that some region meets, and what each of them holds.
use Rattle.std.specs.Prelude.{ℕ, zero, suc, ◌+◌, ◌-◌, ◌*◌, ◌^◌, nat_lt, min, if◌then◌else◌, List, map, fold, take, slice_get, Option, Some, None, unwrap_or}
use Rattle.std.specs.List.{range_with_len}
use Rattle.std.specs.FinMap as fin
use Rattle.guest_mem.specs.Pages.{Page, Pages, page_size}
use Rattle.guest_mem.specs.Spans.{page_numbers, is_mapped, page_perms, span_of}
use Rattle.guest_mem.specs.declared.regions.Region.{Region}

-- the bytes of a region: no more than its length, and none past the last address
abbrev pub bytes_of : Region → List ℕ
bytes_of r = take (min r.len (2 ^ 32 - r.start)) r.bytes

-- of bytes that stand from a start on, the byte at an address
abbrev pub byte_from : ℕ → List ℕ → ℕ → Option ℕ
byte_from start bytes a = if nat_lt a start then None else slice_get bytes (a - start)

-- the byte of an address: that of the last region that has one there, and 0 where none has
unfoldable pub byte_of : List Region → ℕ → ℕ
byte_of rs a = fold (λ before r. unwrap_or (byte_from r.start (bytes_of r) a) before) 0 rs

-- what a function gives for n numbers from a first one on
unfoldable pub listed : (ℕ → ℕ) → ℕ → ℕ → List ℕ
listed f first n = map (λ k. f (first + k)) (range_with_len 0 n)

-- what a page holds: the union of the permissions of the regions that meet it, and the byte of each of its addresses
abbrev pub page_held : List Region → ℕ → Page
page_held rs page = record { perms = page_perms (map span_of rs) page; bytes = listed (byte_of rs) (page * page_size) page_size }

-- a page that no region meets is not mapped
abbrev pub page_opened : List Region → ℕ → Option Page
page_opened rs page = if is_mapped (map span_of rs) page then Some (page_held rs page) else None

-- the pages that a function gives for the numbers below n
abbrev pub with_given : Pages → ℕ → Option Page → Pages
with_given pages page None = pages
with_given pages page (Some p) = fin.insert pages page p

unfoldable pub pages_given : (ℕ → Option Page) → ℕ → Pages
pages_given f zero = fin.empty
pages_given f (suc n) = with_given (pages_given f n) n (f n)

-- the pages of a memory of these regions
unfoldable pub opened : List Region → Pages
opened rs = pages_given (page_opened rs) page_numbers
