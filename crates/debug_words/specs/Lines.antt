-- The lines of what a session reads, and what is still to come of it.
use Rattle.std.specs.Prelude.{◌≡◌, ℕ, ◌+◌, ◌-◌, ◌==◌, ◌||◌, ◌≤◌, Bool, true, false, List, [], ◌∷◌, ◌++◌, take, length, Option, Some, None, if◌then◌else◌, nat_le}
use Rattle.std.specs.Option.{option_map}

abbrev pub newline : ℕ
newline = 10

abbrev pub is_empty : List ℕ → Bool
is_empty [] = true
is_empty (b ∷ bs) = false

-- The lines of these bytes, of whose first line some bytes were seen before: each line is what stands before a newline.
-- What stands after the last newline is a line too, where it is not empty and nothing was cut off.
unfoldable pub lines_after : Bool → List ℕ → List ℕ → List (List ℕ)
lines_after cut seen [] = if cut || is_empty seen then [] else seen ∷ []
lines_after cut seen (b ∷ bs) = if b == newline then seen ∷ lines_after cut [] bs else lines_after cut (seen ++ b ∷ []) bs

abbrev pub lines : Bool → List ℕ → List (List ℕ)
lines cut bytes = lines_after cut [] bytes

-- the most bytes of commands that a session reads
unfoldable pub most_bytes : ℕ
most_bytes = 16777216

-- what contracts see of the reader: the bytes that it took and has not given, and how many it took
pub record ReaderValue : Type 0 where
  pub pending : List ℕ
  pub taken : ℕ

-- the bytes still to come, where a source has these left
abbrev pub coming : ReaderValue → List ℕ → List ℕ
coming r left = r.pending ++ take (most_bytes - r.taken) left

-- as many bytes as a session reads are there
abbrev pub is_cut : ReaderValue → List ℕ → Bool
is_cut r left = nat_le most_bytes (r.taken + length left)

-- The reader and its source, where this is told, have these bytes to give, and more or not.
pub record Gives (cut : Bool) (bytes : List ℕ) (r : ReaderValue) (left : Option (List ℕ)) : Type 0 where
  pub rest : List ℕ
  pub told : left ≡ Some rest
  pub bytes_are : bytes ≡ coming r rest
  pub cut_is : cut ≡ is_cut r rest

-- how many bytes the reader can still give
abbrev pub budget : ReaderValue → ℕ
budget r = (most_bytes - r.taken) + length r.pending

-- the same bytes are still to come
pub record GivesOn (r r' : ReaderValue) (left left' : Option (List ℕ)) : Type 0 where
  pub same : (cut : Bool) (bytes : List ℕ) → Gives cut bytes r left → Gives cut bytes r' left'

-- no byte is to come
pub record IsOver (r : ReaderValue) (left : Option (List ℕ)) : Type 0 where
  pub over : (cut : Bool) (bytes : List ℕ) → Gives cut bytes r left → bytes ≡ []

-- the next byte was given
pub record GivesByte (b : ℕ) (r r' : ReaderValue) (left left' : Option (List ℕ)) : Type 0 where
  pub gives : (cut : Bool) (bytes : List ℕ) → Gives cut bytes r left → (rest : List ℕ) × (bytes ≡ b ∷ rest) × Gives cut rest r' left'

-- there was none
pub record GivesEnd (r r' : ReaderValue) (left left' : Option (List ℕ)) : Type 0 where
  pub ends : (cut : Bool) (bytes : List ℕ) → Gives cut bytes r left → (bytes ≡ []) × Gives cut [] r' left'

-- the next line was given, or its first 256 bytes
pub record GivesLine (r r' : ReaderValue) (left left' : Option (List ℕ)) (line : List ℕ) : Type 0 where
  pub gives : (cut : Bool) (bytes : List ℕ) → Gives cut bytes r left → (l : List ℕ) × (rest : List ℕ) × (lines cut bytes ≡ l ∷ lines cut rest) × (line ≡ take 256 l) × Gives cut rest r' left'

-- there was none
pub record GivesNone (r r' : ReaderValue) (left left' : Option (List ℕ)) : Type 0 where
  pub ends : (cut : Bool) (bytes : List ℕ) → Gives cut bytes r left → (lines cut bytes ≡ []) × Gives cut [] r' left'
