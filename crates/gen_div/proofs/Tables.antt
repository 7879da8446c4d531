-- The tables of divisions.
use Rattle.std.proofs.Common.{◌≡◌, Bool, true, false, cond, not, ◌||◌, ◌&&◌, [], ◌∷◌, refl}
use mathlib.Core.Bool.{beq}
use Rattle.micro_ir.proofs.OneElement.{hit}
use Rattle.gen_arith.specs.Recipes.{odd_on, most_on, borrow_on, first_on}
use Rattle.gen_arith.proofs.Rows.{finds}
use Rattle.gen_div.specs.Lists.{borrow_last_on, fits_on, negate_on, unlike_signs_on}

pub borrow_last : (x b c : Bool) → hit borrow_last_on (x ∷ b ∷ c ∷ []) ≡ finds borrow_on c x b
borrow_last true true true = refl
borrow_last true true false = refl
borrow_last true false true = refl
borrow_last true false false = refl
borrow_last false true true = refl
borrow_last false true false = refl
borrow_last false false true = refl
borrow_last false false false = refl

pub odd_last : (x b c : Bool) → hit odd_on (x ∷ b ∷ c ∷ []) ≡ finds odd_on c x b
odd_last true true true = refl
odd_last true true false = refl
odd_last true false true = refl
odd_last true false false = refl
odd_last false true true = refl
odd_last false true false = refl
odd_last false false true = refl
odd_last false false false = refl

pub fits : (k h : Bool) → hit fits_on (k ∷ h ∷ []) || false ≡ k || not h
fits true true = refl
fits true false = refl
fits false true = refl
fits false false = refl

pub picks : (s t x : Bool) → cond (hit first_on (s ∷ t ∷ x ∷ [])) true false ≡ cond s t x
picks true true true = refl
picks true true false = refl
picks true false true = refl
picks true false false = refl
picks false true true = refl
picks false true false = refl
picks false false true = refl
picks false false false = refl

-- ---- signs

abbrev pub flipped : (x s : Bool) → Bool
flipped x s = cond s (not x) x

pub odd_flipped : (x s c : Bool) → hit odd_on (x ∷ s ∷ c ∷ []) ≡ finds odd_on c (flipped x s) false
odd_flipped true true true = refl
odd_flipped true true false = refl
odd_flipped true false true = refl
odd_flipped true false false = refl
odd_flipped false true true = refl
odd_flipped false true false = refl
odd_flipped false false true = refl
odd_flipped false false false = refl

pub carry_flipped : (x s c : Bool) → hit negate_on (x ∷ s ∷ c ∷ []) ≡ finds most_on c (flipped x s) false
carry_flipped true true true = refl
carry_flipped true true false = refl
carry_flipped true false true = refl
carry_flipped true false false = refl
carry_flipped false true true = refl
carry_flipped false true false = refl
carry_flipped false false true = refl
carry_flipped false false false = refl

pub either : (a b : Bool) → hit (1 ∷ 2 ∷ 3 ∷ []) (a ∷ b ∷ []) || false ≡ a || b
either true true = refl
either true false = refl
either false true = refl
either false false = refl

abbrev pub unlike : Bool → Bool → Bool
unlike x y = not (beq x y)

pub sign_table : (x y z : Bool) → hit unlike_signs_on (x ∷ y ∷ z ∷ []) || false ≡ unlike x y && (z || y)
sign_table true true true = refl
sign_table true true false = refl
sign_table true false true = refl
sign_table true false false = refl
sign_table false true true = refl
sign_table false true false = refl
sign_table false false true = refl
sign_table false false false = refl
