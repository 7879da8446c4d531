-- Tables of rows of which some may be one row. A search names a row once, at its first place. A value that wants both bits of a
-- row finds nothing: the keys of the first value of its table that does not are searched for in its place or, where there is
-- none, the row that is written, which the search finds where it holds 1 already.
use Rattle.std.specs.Prelude.{ℕ, ◌/◌, ◌%◌, Bool, true, false, cond, ◌&&◌, ◌||◌, eqb, List, [], ◌∷◌, ◌++◌, map, length, nat_lt, nat_le, Option, Some, None, is_some}
use mathlib.Core.Bool.{beq}
use Rattle.cam_chain.specs.Slices.{matches}
use Rattle.micro_ir.specs.declared.op.MicroOp.{MicroOp}
use Rattle.micro_ir.specs.declared.op.MicroOp.TheVariants.{Search}

-- at most four rows, each one of a subarray's; they may be one row
abbrev pub all_rows : List ℕ → Bool
all_rows [] = true
all_rows (row ∷ rows) = nat_lt row 64 && all_rows rows

abbrev pub are_rows : List ℕ → Bool
are_rows rows = nat_le (length rows) 4 && all_rows rows

-- ---- the keys of a value

-- the bit that keys want of a row
abbrev pub wanted : List (ℕ × Bool) → ℕ → Option Bool
wanted [] row = None
wanted (key ∷ keys) row = cond (eqb key.0 row) (Some key.1) (wanted keys row)

-- The keys with those of one row more, of which they want this bit; none where they want the other bit of it.
abbrev pub with_row : Option Bool → List (ℕ × Bool) → (row : ℕ) → (bit : Bool) → Option (List (ℕ × Bool))
with_row None keys row bit = Some (keys ++ (row, bit) ∷ [])
with_row (Some other) keys row bit = cond (beq other bit) (Some keys) None

-- what comes of keys, where there are some
abbrev pub then_keys : Option (List (ℕ × Bool)) → (List (ℕ × Bool) → Option (List (ℕ × Bool))) → Option (List (ℕ × Bool))
then_keys None next = None
then_keys (Some keys) next = next keys

-- the keys with those of the rows, of which the first takes the lowest bit of the value
unfoldable pub keys_with : List (ℕ × Bool) → (rows : List ℕ) → (value : ℕ) → Option (List (ℕ × Bool))
keys_with keys [] value = Some keys
keys_with keys (row ∷ rows) value =
    then_keys (with_row (wanted keys row) keys row (eqb (value % 2) 1)) (λ more. keys_with more rows (value / 2))

-- The keys of a value, each row once; none where it wants both bits of a row.
abbrev pub keys_once : (rows : List ℕ) → (value : ℕ) → Option (List (ℕ × Bool))
keys_once rows value = keys_with [] rows value

-- ---- the keys of a table

abbrev pub or_first : Option (List (ℕ × Bool)) → Option (List (ℕ × Bool)) → Option (List (ℕ × Bool))
or_first None others = others
or_first (Some keys) others = Some keys

abbrev pub or_keys : Option (List (ℕ × Bool)) → List (ℕ × Bool) → List (ℕ × Bool)
or_keys None others = others
or_keys (Some keys) others = keys

-- the keys of the first value that wants no two bits of a row
unfoldable pub first_whole : (rows on : List ℕ) → Option (List (ℕ × Bool))
first_whole rows [] = None
first_whole rows (value ∷ on) = or_first (keys_once rows value) (first_whole rows on)

-- some value of the table does
abbrev pub has_whole : (rows on : List ℕ) → Bool
has_whole rows on = is_some (first_whole rows on)

-- what is searched for in place of a value that wants both bits of a row
abbrev pub stand_in : (rows on : List ℕ) (out : ℕ) → List (ℕ × Bool)
stand_in rows on out = or_keys (first_whole rows on) ((out, true) ∷ [])

-- the keys that are searched for: of a value, and of the values of a table
abbrev pub search_keys : (rows on : List ℕ) (out value : ℕ) → List (ℕ × Bool)
search_keys rows on out value = or_keys (keys_once rows value) (stand_in rows on out)

unfoldable pub table_keys : (rows on : List ℕ) (out : ℕ) → List (List (ℕ × Bool))
table_keys rows on out = map (search_keys rows on out) on

-- ---- searches

-- searches for keys in turn: the first sets the tags where `join` is 0, and the later ones join
abbrev pub searches_for : (subs : ℕ) (join : Bool) → List (List (ℕ × Bool)) → List MicroOp
searches_for subs join [] = []
searches_for subs join (keys ∷ rest) = Search subs keys join ∷ searches_for subs true rest

-- some keys match the bits
abbrev pub any_match : List (List (ℕ × Bool)) → (ℕ → Bool) → Bool
any_match [] bits = false
any_match (keys ∷ rest) bits = matches bits keys || any_match rest bits
