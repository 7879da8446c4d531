-- Tables of a carry and two operands.
use Rattle.std.proofs.Common.{◌≡◌, ◌≢◌, ℕ, ◌<◌, Bool, true, List, [], ◌∷◌, zero, suc, refl, ◌∙◌, arith, inl, inr}
use Rattle.std.specs.Prelude.{IsTrue}
use Rattle.std.proofs.lemmas.Bool.{lt-ltb}
use Rattle.micro_ir.specs.Folding.{has_whole, are_rows}
use Rattle.micro_ir.specs.WorkRows.{IsOperandRow, carry_row}
use Rattle.micro_ir.proofs.Folds.{is_level, level-whole}
use Rattle.micro_ir.proofs.OneElement.{hit}
use Rattle.gen_arith.specs.Laws.{Apart}
use Rattle.gen_arith.proofs.Ripple.{carries, bits_in}

-- whether the table has the value of three bits
abbrev pub finds : List ℕ → Bool → Bool → Bool → Bool
finds on c x y = hit on (c ∷ x ∷ y ∷ [])

-- The bits of a value of the table are all alike, so that its searches find what it does whichever of its rows are one.
abbrev pub IsLevel : List ℕ → Type 0
IsLevel on = (a b : ℕ) → is_level (carry_row ∷ a ∷ b ∷ []) on ≡ true

pub level : (on : List ℕ) (a b : ℕ) → IsLevel on → has_whole (carry_row ∷ a ∷ b ∷ []) on ≡ true
level on a b h = level-whole (carry_row ∷ a ∷ b ∷ []) on (h a b)

-- the carry into each bit, from the bits of the operands
abbrev pub carried : (on : List ℕ) (first : Bool) (x y : ℕ → Bool) → ℕ → Bool
carried on first x y zero = first
carried on first x y (suc i) = finds on (carried on first x y i) (x i) (y i)

pub carries-carried : (on : List ℕ) (a b : ℕ) (first : Bool) (e : ℕ → ℕ → Bool) (i : ℕ) → carries on first (bits_in (a ∷ b ∷ []) e) i ≡ carried on first (e a) (e b) i
carries-carried on a b first e zero = refl
carries-carried on a b first e (suc i) = rw (carries-carried on a b first e i) refl

-- ---- operands

-- what is known of a row of an operand
pub record Beside (work r : ℕ) : Type 0 where
  pub below : r < 64
  pub apart : r ≢ work

-- an operand is apart from a row that is none of them
beside : (work r : ℕ) → 34 < work → work < 55 → IsOperandRow r → Beside work r
beside work r above below (inl l) = record { below = omega arith; apart = λ (e : r ≡ work). absurd (omega (arith, e)) }
beside work r above below (inr (inl is)) = record { below = omega arith; apart = λ (e : r ≡ work). absurd (omega (arith, e)) }
beside work r above below (inr (inr (inl is))) = record { below = omega arith; apart = λ (e : r ≡ work). absurd (omega (arith, e)) }
beside work r above below (inr (inr (inr (inl is)))) = record { below = omega arith; apart = λ (e : r ≡ work). absurd (omega (arith, e)) }
beside work r above below (inr (inr (inr (inr is)))) = record { below = omega arith; apart = λ (e : r ≡ work). absurd (omega (arith, e)) }

-- a row of a subarray, and the operands
pub work-rows : (work a b : ℕ) → work < 64 → IsOperandRow a → IsOperandRow b → IsTrue (are_rows (work ∷ a ∷ b ∷ []))
work-rows work a b low x y =
    let p = beside 35 a (omega arith) (omega arith) x in
    let q = beside 35 b (omega arith) (omega arith) y in
    rw (lt-ltb work 64 low, lt-ltb a 64 p.below, lt-ltb b 64 q.below) refl

-- an operand is not a row that the lists work in, nor are both
pub not-work : (work r : ℕ) → 34 < work → work < 55 → IsOperandRow r → r ≢ work
not-work work r above below is = (beside work r above below is).apart

pub both-apart : (c d a b : ℕ) → (34 < c) × (c < 55) → (34 < d) × (d < 55) → IsOperandRow a → IsOperandRow b → Apart c d (a ∷ b ∷ [])
both-apart c d a b x y p q = (not-work c a x.0 x.1 p, not-work d a y.0 y.1 p, (not-work c b x.0 x.1 q, not-work d b y.0 y.1 q, tt))
