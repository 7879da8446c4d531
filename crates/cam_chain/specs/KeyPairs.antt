-- The pairs of a row and its wanted bit that a search may be given.
use Rattle.std.specs.Prelude.{ℕ, Bool, true, ◌&&◌, not, eqb, List, [], ◌∷◌, length, nat_lt, nat_le, ◌%◌, ◌/◌}

-- none of the pairs names the row
abbrev pub is_new_row : ℕ → List (ℕ × Bool) → Bool
is_new_row row [] = true
is_new_row row (pair ∷ pairs) = not (eqb row pair.0) && is_new_row row pairs

-- each row is one of a subarray's, and none is named twice
abbrev pub are_apart : List (ℕ × Bool) → Bool
are_apart [] = true
are_apart (pair ∷ pairs) = nat_lt pair.0 64 && is_new_row pair.0 pairs && are_apart pairs

-- at most four pairs, of rows that are apart
abbrev pub are_keys : List (ℕ × Bool) → Bool
are_keys pairs = nat_le (length pairs) 4 && are_apart pairs

-- the pairs of a value: the first row takes the lowest bit
abbrev pub keys_of : List ℕ → ℕ → List (ℕ × Bool)
keys_of [] t = []
keys_of (row ∷ rows) t = (row, eqb (t % 2) 1) ∷ keys_of rows (t / 2)
