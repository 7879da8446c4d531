-- The tags of a chain by their places: that of column c in subarray s has the place 32 c + s.
use Rattle.std.specs.Prelude.{ℕ, zero, suc, ◌≡◌, ◌-◌, ◌*◌, ◌/◌, ◌%◌, ◌^◌, ◌<◌, Bool, true, false, cond, ◌&&◌, eqb, Option, Some, None, MatchOption, min}
use Rattle.std.specs.Int.{bit_at}
use Rattle.std.specs.List.{count_by, range_with_len}
use lib.Dec.{ltb}
use Rattle.bit_rows.specs.Slices.{Slices}

-- the number of places of a chain
abbrev pub places : Slices → ℕ
places s = 32 * s.columns

-- the tag of place n is set
abbrev pub is_tagged : Slices → ℕ → Bool
is_tagged s n = s.tag (n % 32) (n / 32)

-- place n lies in a selected subarray: bit k of `subs` selects subarray k
abbrev pub is_selected : ℕ → ℕ → Bool
is_selected subs n = eqb (bit_at subs (n % 32)) 1

-- how many tags are set in the selected subarrays
abbrev pub tags_in : ℕ → Slices → ℕ
tags_in subs s = count_by (λ n. is_selected subs n && is_tagged s n) (range_with_len 0 (places s))

-- A tag is set in the selected subarrays.
abbrev pub HasTag : ℕ → Slices → Type 0
HasTag subs s = (n : ℕ) × (n < places s) × (is_selected subs n ≡ true) × (is_tagged s n ≡ true)

-- No tag of a place below n is set.
abbrev pub NoTagBelow : ℕ → Slices → Type 0
NoTagBelow n s = (k : ℕ) → k < n → is_tagged s k ≡ false

-- The tag of place n is set, and that of no lesser place is.
abbrev pub IsFirstTag : ℕ → Slices → Type 0
IsFirstTag n s = (n < places s) × (is_tagged s n ≡ true) × NoTagBelow n s

-- No tag of a place below n is set in one subarray.
abbrev pub NoTagOf : ℕ → ℕ → Slices → Type 0
NoTagOf sub n s = (k : ℕ) → k < n → k % 32 ≡ sub → is_tagged s k ≡ false

-- The place, where there is one, has the first tag of one subarray; where there is none, the subarray has no tag.
abbrev pub IsFirstOf : ℕ → Option ℕ → Slices → Type 0
IsFirstOf sub place s = MatchOption place (NoTagOf sub (places s) s) (λ n. (n < places s) × (n % 32 ≡ sub) × (is_tagged s n ≡ true) × NoTagOf sub n s)

-- the lesser of two places, where there are two
abbrev pub lesser_of : Option ℕ → Option ℕ → Option ℕ
lesser_of (Some x) (Some y) = Some (min x y)
lesser_of (Some x) None = Some x
lesser_of None y = y

-- the least number below n that passes a test, or `none` where no such number does
unfoldable pub least_below : (none : ℕ) → (test : ℕ → Bool) → (n : ℕ) → ℕ
least_below none test zero = none
least_below none test (suc n) = cond (ltb (least_below n test n) n) (least_below n test n) (cond (test n) n none)

-- the number that stands for no place
abbrev pub no_place : ℕ
no_place = 2 ^ 32 - 1

-- the least place whose tag is set, or the number for no place
abbrev pub first_place : Slices → ℕ
first_place s = least_below no_place (is_tagged s) (places s)
