-- How the pages of a region are laid over those that are there: first its permissions, then its bytes.
use Rattle.std.specs.Prelude.{ℕ, zero, suc, ◌+◌}
use Rattle.std.specs.FinMap as fin
use Rattle.guest_mem.specs.Pages.{Pages, joined, written}
use Rattle.guest_mem.specs.Spans.{first_page, page_count_of, span_of}
use Rattle.guest_mem.specs.Opening.{bytes_of}
use Rattle.guest_mem.specs.declared.regions.Region.{Region}

-- the pages after n pages from a number on got permissions
unfoldable pub granted : Pages → ℕ → ℕ → ℕ → Pages
granted pages perms first zero = pages
granted pages perms first (suc n) = granted (fin.insert pages first (joined (fin.get pages first) perms)) perms (first + 1) n

-- the pages with one more region
abbrev pub laid : Pages → Region → Pages
laid pages r = written (granted pages r.perms.0 (first_page (span_of r)) (page_count_of (span_of r))) r.start (bytes_of r)
