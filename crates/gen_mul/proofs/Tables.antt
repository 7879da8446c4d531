-- The tables of products.
use Rattle.std.proofs.Common.{◌≡◌, ℕ, Bool, true, false, not, ◌&&◌, List, [], ◌∷◌, refl, ◌∙◌}
use Rattle.micro_ir.specs.WorkRows.{carry_row, broadcast_row}
use Rattle.micro_ir.proofs.OneElement.{hit, fires-hit}
use Rattle.gen_arith.specs.Recipes.{odd_on, most_on, odd_not_on, borrow_on}
use Rattle.gen_arith.proofs.Rows.{finds}
use Rattle.row_sums.proofs.Totals.{Reads}
use Rattle.gen_mul.specs.Lists.{gated, gated_sum_on, gated_carry_on, gated_borrow_on}

pub gated_sum : (c p x s : Bool) → hit gated_sum_on (c ∷ p ∷ x ∷ s ∷ []) ≡ finds odd_on c p (x && s)
gated_sum true true true true = refl
gated_sum true true true false = refl
gated_sum true true false true = refl
gated_sum true true false false = refl
gated_sum true false true true = refl
gated_sum true false true false = refl
gated_sum true false false true = refl
gated_sum true false false false = refl
gated_sum false true true true = refl
gated_sum false true true false = refl
gated_sum false true false true = refl
gated_sum false true false false = refl
gated_sum false false true true = refl
gated_sum false false true false = refl
gated_sum false false false true = refl
gated_sum false false false false = refl

pub gated_carry : (c p x s : Bool) → hit gated_carry_on (c ∷ p ∷ x ∷ s ∷ []) ≡ finds most_on c p (x && s)
gated_carry true true true true = refl
gated_carry true true true false = refl
gated_carry true true false true = refl
gated_carry true true false false = refl
gated_carry true false true true = refl
gated_carry true false true false = refl
gated_carry true false false true = refl
gated_carry true false false false = refl
gated_carry false true true true = refl
gated_carry false true true false = refl
gated_carry false true false true = refl
gated_carry false true false false = refl
gated_carry false false true true = refl
gated_carry false false true false = refl
gated_carry false false false true = refl
gated_carry false false false false = refl

-- the rows of the carry, the sum so far, a, and the broadcast bit
pub gated-reads : (h x : ℕ) (table base : List ℕ) → ((c p x s : Bool) → hit table (c ∷ p ∷ x ∷ s ∷ []) ≡ finds base c p (x && s))
    → Reads (gated h x) table carry_row base (λ f. f h) (λ f. f x && f broadcast_row)
gated-reads h x table base is f = fires-hit (gated h x) table f ∙ is (f carry_row) (f h) (f x) (f broadcast_row)

pub gated_borrow : (c p x s : Bool) → hit gated_borrow_on (c ∷ p ∷ x ∷ s ∷ []) ≡ finds borrow_on c p (x && s)
gated_borrow true true true true = refl
gated_borrow true true true false = refl
gated_borrow true true false true = refl
gated_borrow true true false false = refl
gated_borrow true false true true = refl
gated_borrow true false true false = refl
gated_borrow true false false true = refl
gated_borrow true false false false = refl
gated_borrow false true true true = refl
gated_borrow false true true false = refl
gated_borrow false true false true = refl
gated_borrow false true false false = refl
gated_borrow false false true true = refl
gated_borrow false false true false = refl
gated_borrow false false false true = refl
gated_borrow false false false false = refl

-- ---- with the first bit inverted

pub odd_inverted : (c q d : Bool) → finds odd_not_on c q d ≡ finds odd_on c (not q) d
odd_inverted true true true = refl
odd_inverted true true false = refl
odd_inverted true false true = refl
odd_inverted true false false = refl
odd_inverted false true true = refl
odd_inverted false true false = refl
odd_inverted false false true = refl
odd_inverted false false false = refl

pub most_inverted : (c q d : Bool) → finds borrow_on c q d ≡ finds most_on c (not q) d
most_inverted true true true = refl
most_inverted true true false = refl
most_inverted true false true = refl
most_inverted true false false = refl
most_inverted false true true = refl
most_inverted false true false = refl
most_inverted false false true = refl
most_inverted false false false = refl
