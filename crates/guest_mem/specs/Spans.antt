-- Ranges of addresses: the pages that they meet, and the permissions that a page gets of them.
use Rattle.std.specs.Prelude.{ℕ, ◌+◌, ◌-◌, ◌^◌, ◌==◌, ◌&&◌, nat_lt, nat_le, min, bit_or, if◌then◌else◌, Bool, List, [], ◌∷◌}
use Rattle.std.specs.List.{list_any}
use Rattle.guest_mem.specs.Pages.{page_of}
use Rattle.guest_mem.specs.declared.spans.Span.{Span}
use Rattle.guest_mem.specs.declared.regions.Region.{Region}

-- how many pages there are
abbrev pub page_numbers : ℕ
page_numbers = 2 ^ 20

-- the first and the last page that a range with addresses meets
abbrev pub first_page : Span → ℕ
first_page s = page_of s.start

abbrev pub last_page : Span → ℕ
last_page s = page_of (s.start + s.len - 1)

-- a range meets a page
abbrev pub meets : ℕ → Span → Bool
meets page s = nat_lt 0 s.len && nat_le (first_page s) page && nat_le page (last_page s)

-- how many pages a range meets, of those that there are
abbrev pub page_count_of : Span → ℕ
page_count_of s = if s.len == 0 then 0 else min (last_page s) (page_numbers - 1) + 1 - first_page s

-- a page is mapped where some range meets it
abbrev pub is_mapped : List Span → ℕ → Bool
is_mapped ss page = list_any (meets page) ss

-- the permissions of a page: the union of those of the ranges that meet it
unfoldable pub page_perms : List Span → ℕ → ℕ
page_perms [] page = 0
page_perms (s ∷ ss) page = if meets page s then bit_or s.perms.0 (page_perms ss page) else page_perms ss page

-- the range of a region
abbrev pub span_of : Region → Span
span_of r = record { start = r.start; len = r.len; perms = r.perms }
