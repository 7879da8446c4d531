-- How an element of a destination stands to the instruction that writes it, and what becomes of one that is not computed
-- (vector extension 1.0, sections 3.4.3 and 5.3 to 5.4).
use Rattle.std.specs.Prelude.{ℕ, Bool, true, false, cond, ◌&&◌, ◌||◌, not, ◌-◌, ◌^◌}
use lib.Dec.{ltb}

-- before the first element that is computed; computed; left out by the mask; after the last one
pub data Place : Type 0 where
  prestart : Place
  active : Place
  masked_off : Place
  tail : Place

-- The place of element e. `vstart` is the element that the instruction starts at. Its elements run from `from` on and below
-- `len`, which are usually vstart and vl. `mask` has the bits of v0.
abbrev pub place_of : (vstart from len : ℕ) (masked : Bool) (mask : ℕ → Bool) → ℕ → Place
place_of vstart from len masked mask e =
    cond (ltb e vstart || (ltb e from && ltb e len)) prestart (cond (ltb e len) (cond (not masked || mask e) active masked_off) tail)

-- the element is computed
abbrev pub is_active : Place → Bool
is_active prestart = false
is_active active = true
is_active masked_off = false
is_active tail = false

-- what an agnostic element of w bits becomes: all ones where the policy is ones, and else what it was
abbrev pub agnostic_value : (ones : Bool) (w old : ℕ) → ℕ
agnostic_value ones w old = cond ones (2 ^ w - 1) old

-- Whether an element in such a place is agnostic, so that it may become all ones: one that is masked off, where
-- `masked_too` says so, and one of the tail, where `tail_too` does.
abbrev pub is_agnostic : (masked_too tail_too : Bool) → Place → Bool
is_agnostic masked_too tail_too prestart = false
is_agnostic masked_too tail_too active = false
is_agnostic masked_too tail_too masked_off = masked_too
is_agnostic masked_too tail_too tail = tail_too
