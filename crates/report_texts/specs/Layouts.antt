-- The text about the layout of an image: its entry, and its pages.
use Rattle.std.specs.Prelude.{ℕ, zero, suc, ◌+◌, ◌-◌, ◌*◌, ◌/◌, ◌%◌, ◌==◌, ◌<◌, ◌≤◌, ◌≡◌, Bool, true, false, List, [], ◌∷◌, ◌++◌, codes, Option, Some, None, if◌then◌else◌}
use Rattle.bit_laws.specs.Digits.{hex_word}
use Rattle.rvv_meaning.specs.Texts.{newline}
use Rattle.guest_mem.specs.declared.spans.Span.{Span}
use Rattle.guest_mem.specs.Pages.{page_size}
use Rattle.guest_mem.specs.Spans.{page_numbers, meets, is_mapped, page_perms}

-- the permissions of a page, where it is mapped
abbrev pub perms_of : List Span → ℕ → Option ℕ
perms_of ss page = if is_mapped ss page then Some (page_perms ss page) else None

abbrev pub same_perms : Option ℕ → Option ℕ → Bool
same_perms None None = true
same_perms None (Some q) = false
same_perms (Some p) None = false
same_perms (Some p) (Some q) = p == q

-- the letter of a permission that is there, and a dash for one that is not
abbrev pub letter : ℕ → ℕ → ℕ → ℕ
letter perms bit code = if perms / bit % 2 == 1 then code else 45

-- r, w and x: 4 to read, 2 to write, 1 to execute
abbrev pub letters : ℕ → List ℕ
letters perms = letter perms 4 114 ∷ letter perms 2 119 ∷ letter perms 1 120 ∷ []

-- the line about the pages from a first page on and before another, which are mapped with these permissions
abbrev pub map_line : ℕ → ℕ → ℕ → List ℕ
map_line first after perms =
    codes "map " ++ hex_word (first * page_size) ++ codes " " ++ hex_word (after * page_size) ++ codes " " ++ letters perms ++ newline

-- pages that are not mapped have no line
abbrev pub line_of_run : Option ℕ → ℕ → ℕ → List ℕ
line_of_run None first after = []
line_of_run (Some perms) first after = map_line first after perms

-- The lines of the pages from a page on, of which n are left: one for each longest run of neighbouring pages with equal
-- permissions. The run that goes on began at `first`.
unfoldable pub lines_from : List Span → ℕ → ℕ → ℕ → List ℕ
lines_from ss first page zero = line_of_run (perms_of ss first) first page
lines_from ss first page (suc n) =
    if same_perms (perms_of ss page) (perms_of ss first)
    then lines_from ss first (page + 1) n
    else line_of_run (perms_of ss first) first page ++ lines_from ss page (page + 1) n

-- the lines of all pages
unfoldable pub map_lines : List Span → List ℕ
map_lines ss = lines_from ss 0 1 (page_numbers - 1)

-- the line about the entry
abbrev pub entry_line : ℕ → List ℕ
entry_line entry = codes "ok entry " ++ hex_word entry ++ newline

-- the line about the entry, and the lines of the pages
unfoldable pub layout_text : ℕ → List Span → List ℕ
layout_text entry ss = entry_line entry ++ map_lines ss

-- a range meets all pages from one on and before another, or none of them
pub record IsSteady (page after : ℕ) (s : Span) : Type 0 where
  pub same : (other : ℕ) → page ≤ other → other < after → meets other s ≡ meets page s

-- the pages from one on and before another have the permissions of the first of them
pub record IsRun (ss : List Span) (first after : ℕ) : Type 0 where
  pub same : (page : ℕ) → first ≤ page → page < after → perms_of ss page ≡ perms_of ss first
