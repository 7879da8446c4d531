-- How a shelf keeps its files, and which one is open.
use Rattle.std.specs.Prelude.{◌≤◌, ⊤, ℕ, List, [], Option, Some, None, length, drop, string_bytes, slice_get, MatchOption}
use Rattle.std.specs.Option.{option_map}
use Rattle.cape_io.specs.declared.shelf.Stored.{Stored}
use Rattle.cape_io.specs.declared.shelf.Opened.{Opened}
use Rattle.cape_io.specs.declared.shelf.Opened.TheVariants.{Closed, Empty, Reading}

-- The name of a file, and its bytes.
abbrev pub file_of : Stored → List ℕ × List ℕ
file_of stored = (string_bytes stored.name, stored.bytes.items)

-- What is left of the open file.
abbrev pub left_of : List Stored → Opened → Option (List ℕ)
left_of files Closed = None
left_of files Empty = Some []
left_of files (Reading place read) = option_map (λ stored. drop read stored.bytes.items) (slice_get files place)

-- The open file is there, and has at least the bytes that were read.
abbrev pub IsInRange : List Stored → Opened → Type 0
IsInRange files Closed = ⊤
IsInRange files Empty = ⊤
IsInRange files (Reading place read) = MatchOption (slice_get files place) ⊥ (λ stored. read ≤ length stored.bytes.items)
