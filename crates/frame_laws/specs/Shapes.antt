-- Instructions whose destination is a group of elements.
use Rattle.std.specs.Prelude.{◌≡◌, ℕ, ◌+◌, ◌*◌, ◌/◌, ◌<◌, Bool, true, ◌&&◌, ◌||◌, not}
use lib.Dec.{ltb, leb}
use Rattle.element_ops.specs.Elements.{Registers}

-- An instruction, as its meaning and its program need it.
pub record Shape : Type 0 where
  -- the bits of an element of the destination
  pub width : ℕ
  -- the bits of a register
  pub vlen : ℕ
  -- the registers of the destination, from vd on
  pub registers : ℕ
  pub vd : ℕ
  -- whether the mask is an operand
  pub reads : Bool
  -- whether elements whose mask bit is 0 are left out
  pub masked : Bool
  -- whether agnostic elements become ones, or stay
  pub ones : Bool
  -- whether elements that the mask leaves out are agnostic
  pub vma : Bool
  -- whether elements of the tail are agnostic
  pub tail : Bool
  -- the element that the instruction starts at; its elements run from `from` on and below `len`
  pub vstart : ℕ
  pub from : ℕ
  pub len : ℕ
  -- whether the program puts the scalar into the scalar row, and the bits of each of its elements there
  pub splat : Bool
  pub scalar : ℕ
  pub scalar_width : ℕ
  -- the value of an element: from the registers, the element's number and its mask bit
  pub result : Registers → ℕ → Bool → ℕ

-- the number of the first element of register g of the group
abbrev pub first_of : Shape → (g : ℕ) → ℕ
first_of i g = g * (i.vlen / i.width)

-- the number of element k of column col of register g of the group
abbrev pub element_number : Shape → (g k col : ℕ) → ℕ
element_number i g k col = first_of i g + (col * (32 / i.width) + k)

-- an element before the first one that is computed
abbrev pub is_prestart : Shape → ℕ → Bool
is_prestart i e = ltb e i.vstart || (ltb e i.from && ltb e i.len)

-- The numbers that a program writes into its windows and its fills: the first element that may be active or left out by
-- the mask, and the first one of the tail.
pub record Bounds : Type 0 where
  pub from : ℕ
  pub until : ℕ

-- The bounds fit the places of the elements.
pub record Bounded (i : Shape) (b : Bounds) : Type 0 where
  pub window : (e : ℕ) → (leb b.from e && ltb e i.len) ≡ (not (is_prestart i e) && ltb e i.len)
  pub tail : i.tail ≡ true → (e : ℕ) → leb b.until e ≡ (not (is_prestart i e) && not (ltb e i.len))
  pub off : i.masked ≡ true → b.until ≡ i.len

-- The bounds of most instructions: their elements run from vstart on, and the tail begins where they end.
abbrev pub usual_bounds : Shape → Bounds
usual_bounds i = record { from = i.vstart; until = i.len }

abbrev pub UsualBoundsLaw : Type 0
UsualBoundsLaw = (i : Shape) → i.from ≡ i.vstart → (i.tail ≡ true → i.vstart < i.len) → Bounded i (usual_bounds i)
