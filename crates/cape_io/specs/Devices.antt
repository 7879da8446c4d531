-- Counts of faults, and what is known of bytes and of files.
use Rattle.std.specs.Prelude.{◌≡◌, ℕ, ◌+◌, ◌-◌, ◌^◌, ◌≤◌, min, List, [], length, take, ⊤, Option, Some, slice_index_or}
use Rattle.std.specs.Io.KnownBytes.{Appends}

-- One more fault, up to the last number that a `u64` holds.
abbrev pub one_fault_more : ℕ → ℕ
one_fault_more count = min (count + 1) (2 ^ 64 - 1)

-- The count rose by one fault, or it stands at the last number that a `u64` holds.
abbrev pub Rose : ℕ → ℕ → Type 0
Rose before now = (now ≡ one_fault_more before) × (before ≤ now)

-- Some prefix of the piece was appended, where the bytes are known.
abbrev pub AppendsPrefix : Option (List ℕ) → Option (List ℕ) → List ℕ → Type 0
AppendsPrefix old new piece = (n : ℕ) × (n ≤ length piece) × Appends old new (take n piece)

-- What is known of the file of a name: nothing, that there is none, or its bytes.
pub data KnownFile : Type 0 where
  Unknown : KnownFile
  Absent : KnownFile
  Present : (bytes : List ℕ) → KnownFile

-- All bytes of the file are left, where these are known.
abbrev pub StartsAt : KnownFile → Option (List ℕ) → Type 0
StartsAt Unknown left = ⊤
StartsAt Absent left = ⊤
StartsAt (Present bytes) left = left ≡ Some bytes

-- The word at a place.
abbrev pub word_at : List (List ℕ) → ℕ → List ℕ
word_at words place = slice_index_or words place []
