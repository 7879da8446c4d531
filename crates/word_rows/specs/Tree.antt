-- Trees of tests of fields, which find the row of a word.
use Rattle.std.specs.Prelude.{ℕ, ◌+◌, ◌*◌, ◌-◌, ◌/◌, ◌%◌, ◌^◌, ◌==◌, ◌&&◌, nat_lt, if◌then◌else◌, bit_and, bit_or, Bool, true, false, List, [], ◌∷◌, Option, Some, None}
use Rattle.word_rows.specs.Field.{field}
use Rattle.word_rows.specs.Rows.{Row, fits, look_up}

-- the order in which fields of a word are tested
pub data Tree : Type 0 where
  leaf : Tree
  test : (low width value : ℕ) (hit miss : Tree) → Tree

abbrev pub mask_of : ℕ → ℕ → ℕ
mask_of low width = 2 ^ (width + low) - 2 ^ low

-- the rows that a word may fit whose bits under the mask are the value
abbrev pub with_field : {K : Type 0} → ℕ → ℕ → List (Row K) → List (Row K)
with_field mask value [] = []
with_field mask value (r ∷ rs) = if bit_and value r.mask == bit_and r.value mask then r ∷ with_field mask value rs else with_field mask value rs

-- the rows that a word may fit whose bits under the mask are not the value
abbrev pub without_field : {K : Type 0} → ℕ → ℕ → List (Row K) → List (Row K)
without_field mask value [] = []
without_field mask value (r ∷ rs) = if (bit_and r.mask mask == mask) && (bit_and r.value mask == value) then without_field mask value rs else r ∷ without_field mask value rs

abbrev pub first_kind : {K : Type 0} → List (Row K) → Option K
first_kind [] = None
first_kind (r ∷ rs) = Some r.kind

-- the first row is shown to fit by the bits that are known
abbrev pub is_settled : {K : Type 0} → ℕ → ℕ → List (Row K) → Bool
is_settled mask value [] = true
is_settled mask value (r ∷ rs) = (bit_and mask r.mask == r.mask) && (bit_and value r.mask == r.value)

-- what is found of the rows by the tests, where the bits of the word under the mask are known to be the value
abbrev pub walk : {K : Type 0} → Tree → ℕ → ℕ → List (Row K) → ℕ → Option K
walk leaf mask value rs word = first_kind rs
walk (test low width v hit miss) mask value rs word =
    if field low width word == v
    then walk hit (bit_or mask (mask_of low width)) (bit_or value (v * 2 ^ low)) (with_field (mask_of low width) (v * 2 ^ low) rs) word
    else walk miss mask value (without_field (mask_of low width) (v * 2 ^ low) rs) word

-- each way through the tests leaves one row, which fits, or none
abbrev pub is_complete : {K : Type 0} → Tree → ℕ → ℕ → List (Row K) → Bool
is_complete leaf mask value rs = is_settled mask value rs
is_complete (test low width v hit miss) mask value rs =
    is_complete hit (bit_or mask (mask_of low width)) (bit_or value (v * 2 ^ low)) (with_field (mask_of low width) (v * 2 ^ low) rs)
    && is_complete miss mask value (without_field (mask_of low width) (v * 2 ^ low) rs)

-- one test after another of one field
abbrev pub cases : ℕ → ℕ → List (ℕ × Tree) → Tree → Tree
cases low width [] other = other
cases low width (c ∷ cs) other = test low width c.0 c.1 (cases low width cs other)

abbrev pub values : ℕ → ℕ → List ℕ → Tree → Tree
values low width [] other = other
values low width (v ∷ vs) other = test low width v leaf (values low width vs other)
