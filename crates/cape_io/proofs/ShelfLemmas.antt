-- Where a name is found on a shelf, and that a file that is added changes nothing of the open one.
use Rattle.std.proofs.Common.{◌≡◌, ℕ, zero, suc, ◌<◌, ◌≤◌, ◌≢◌, Bool, List, [], ◌∷◌, ◌++◌, length, map, Some, None, MatchOption, refl, arith, string_bytes, position, find}
use Rattle.std.specs.List.{slice_get, position_or_len}
use Rattle.std.specs.Option.{option_map}
use Rattle.std.specs.Str.{bytes_eq}
use Rattle.std.proofs.lemmas.Bool.Decides.{nat_tests}
use Rattle.std.proofs.lemmas.List.Folds.{find_at}
use Rattle.std.proofs.lemmas.Option.{slice_get_past}
use Rattle.std.proofs.lemmas.Slice.Eq.{bytes_eq-Decides}
use Rattle.cape_io.specs.States.{bytes_of}
use Rattle.cape_io.specs.Shelves.{file_of, left_of, IsInRange}
use Rattle.cape_io.specs.declared.shelf.Stored.{Stored}
use Rattle.cape_io.specs.declared.shelf.Opened.{Opened}
use Rattle.cape_io.specs.declared.shelf.Opened.TheVariants.{Closed, Empty, Reading}

-- Whether a stored file has this name.
abbrev pub has_name : List ℕ → Stored → Bool
has_name name stored = bytes_eq (string_bytes stored.name) name

-- The bytes of a name are those of the first stored file that has it.
bytes_of_found : (files : List Stored) (name : List ℕ) → bytes_of (map file_of files) name ≡ option_map (λ stored. stored.bytes.items) (find (has_name name) files)
bytes_of_found [] name = refl
bytes_of_found (stored ∷ files) name = grind (arith, bytes_of_found files name)

-- A name that is found has the bytes at its place.
pub found : (files : List Stored) (name : List ℕ) (place : ℕ) → position (has_name name) files ≡ Some place → left_of files (Reading place 0) ≡ bytes_of (map file_of files) name
found files name place is = grind (arith, nat_tests, bytes_of_found files name, find_at (has_name name) files)

-- A name that is not found has no bytes.
pub not_found : (files : List Stored) (name : List ℕ) → position (has_name name) files ≡ None → bytes_of (map file_of files) name ≡ None
not_found files name is = grind (arith, nat_tests, bytes_of_found files name, find_at (has_name name) files, slice_get_past files (position_or_len (has_name name) files))

kept_by_push : (files : List Stored) (f : Stored) (place : ℕ) → place < length files → slice_get (files ++ f ∷ []) place ≡ slice_get files place
kept_by_push [] f place inside = absurd (omega arith)
kept_by_push (x ∷ files) f zero inside = refl
kept_by_push (x ∷ files) f (suc place) inside = kept_by_push files f place (omega arith)

in_range : (files : List Stored) (place read : ℕ) → MatchOption (slice_get files place) ⊥ (λ f. read ≤ length f.bytes.items) → place < length files
in_range [] place read ok = absurd ok
in_range (x ∷ files) zero read ok = omega arith
in_range (x ∷ files) (suc place) read ok = let below = in_range files place read ok in omega arith

-- a file that is added changes nothing of the open one
pub left_push : (files : List Stored) (f : Stored) (opened : Opened) → IsInRange files opened → left_of (files ++ f ∷ []) opened ≡ left_of files opened
left_push files f Closed ok = refl
left_push files f Empty ok = refl
left_push files f (Reading place read) ok =
    rw (kept_by_push files f place (in_range files place read ok)) refl

-- A file that is added under a name that has none is the file of that name.
pub bytes_of-push_same : (files : List (List ℕ × List ℕ)) (name bytes : List ℕ) → bytes_of files name ≡ None → bytes_of (files ++ (name, bytes) ∷ []) name ≡ Some bytes
bytes_of-push_same [] name bytes absent = grind (arith, nat_tests, bytes_eq-Decides name name)
bytes_of-push_same (file ∷ files) name bytes absent = grind (arith, nat_tests, bytes_of-push_same files name bytes)

-- It changes no other name.
pub bytes_of-push_other : (files : List (List ℕ × List ℕ)) (name bytes other : List ℕ) → other ≢ name → bytes_of (files ++ (name, bytes) ∷ []) other ≡ bytes_of files other
bytes_of-push_other [] name bytes other differs = grind (arith, nat_tests, bytes_eq-Decides name other)
bytes_of-push_other (file ∷ files) name bytes other differs = grind (arith, nat_tests, bytes_of-push_other files name bytes other)
