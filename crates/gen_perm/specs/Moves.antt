-- The operations that move elements into the result row, and the numbers that they leave there.
use Rattle.std.specs.Prelude.{◌≡◌, ℕ, ◌+◌, ◌-◌, Bool, true, false, cond, ◌&&◌}
use lib.Dec.{ltb, leb}
use Rattle.bit_laws.specs.Numbers.{bit_of}
use Rattle.bit_rows.specs.Slices.{Slices}
use Rattle.steer_net.specs.Moves.{slid_bit, limited}
use Rattle.element_ops.specs.Elements.{Registers, element_in}
use Rattle.micro_ir.specs.declared.op.MicroOp.{MicroOp}
use Rattle.micro_ir.specs.declared.op.MicroOp.TheVariants.{Window, Slide, Pick, Index}
use Rattle.micro_ir.specs.WorkRows.{active_row, result_row}

-- the operation is a Slide of elements of w bits into the result row; a Pick; an Index
abbrev pub IsSlide : (w : ℕ) → MicroOp → Type 0
IsSlide w (Slide to base width first up by limit) = (to ≡ result_row) × (width ≡ w)
IsSlide w _ = ⊥

abbrev pub IsPick : (w : ℕ) → MicroOp → Type 0
IsPick w (Pick to base width index limit) = (to ≡ result_row) × (width ≡ w)
IsPick w _ = ⊥

abbrev pub IsIndex : (w : ℕ) → MicroOp → Type 0
IsIndex w (Index to width first) = (to ≡ result_row) × (width ≡ w)
IsIndex w _ = ⊥

-- any of the three
abbrev pub IsMove : (w : ℕ) → MicroOp → Type 0
IsMove w (Slide to base width first up by limit) = (to ≡ result_row) × (width ≡ w)
IsMove w (Pick to base width index limit) = (to ≡ result_row) × (width ≡ w)
IsMove w (Index to width first) = (to ≡ result_row) × (width ≡ w)
IsMove w _ = ⊥

-- a Window of elements of w bits, in the row of active elements
abbrev pub IsWindow : (w : ℕ) → MicroOp → Type 0
IsWindow w (Window row width first from to masked) = (row ≡ active_row) × (width ≡ w)
IsWindow w _ = ⊥

-- the element of the group so many places below, or above; 0 where the group has none below the limit
abbrev pub slide_result : (vlen w base : ℕ) → (up : Bool) → (by limit : ℕ) → Registers → (e : ℕ) → ℕ
slide_result vlen w base true by limit v e = cond (leb by e && ltb (e - by) limit) (element_in vlen v base w (e - by)) 0
slide_result vlen w base false by limit v e = cond (ltb (e + by) limit) (element_in vlen v base w (e + by)) 0

-- the one element of the group; 0 where the group has none below the limit
abbrev pub pick_result : (vlen w base index limit : ℕ) → Registers → ℕ
pick_result vlen w base index limit v = cond (ltb index limit) (element_in vlen v base w index) 0

-- what the operation leaves at element p of its row, from these registers
abbrev pub moved_number : MicroOp → (vlen : ℕ) → Registers → (p : ℕ) → ℕ
moved_number (Slide to base width first up by limit) vlen v p = slide_result vlen width base up by limit v (first + p)
moved_number (Pick to base width index limit) vlen v p = pick_result vlen width base index limit v
moved_number (Index to width first) vlen v p = first + p
moved_number _ vlen v p = 0

-- and bit j of it, in these slices
abbrev pub moved_bit : MicroOp → Slices → (p j : ℕ) → Bool
moved_bit (Slide to base width first up by limit) s p j = slid_bit s base width up by limit (first + p) j
moved_bit (Pick to base width index limit) s p j = limited s base width limit index j
moved_bit (Index to width first) s p j = bit_of (first + p) j
moved_bit _ s p j = false
