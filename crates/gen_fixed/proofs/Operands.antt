-- Rows that lists of fixed point write and read.
use Rattle.std.proofs.Common.{◌≡◌, ◌≢◌, ℕ, Bool, true, false, ◌&&◌, List, [], ◌∷◌, refl, ⊎_elim}
use Rattle.std.proofs.lemmas.Bool.{cases_eq, ne_eqb}
use Rattle.micro_ir.specs.WorkRows.{carry_row, truth_row}
use Rattle.micro_ir.proofs.OneElement.{fires-hit}
use Rattle.gen_shift.specs.Rows.{is_among}
use Rattle.row_sums.specs.Sums.{total_row}
use Rattle.row_sums.proofs.Totals.{Reads, Blind}
use Rattle.gen_fixed.specs.Lists.{operands}

-- each row of one list is in the other
abbrev pub subset : (small big : List ℕ) → Bool
subset [] big = true
subset (x ∷ xs) big = is_among big x && subset xs big

-- what is in none of the more is in none of the fewer
pub fewer : (small big : List ℕ) (r : ℕ) → subset small big ≡ true → is_among big r ≡ false → is_among small r ≡ false
fewer [] big r inside out = refl
fewer (x ∷ xs) big r inside out =
    ⊎_elim
    (λ (q : r ≡ x). let no : is_among big x ≡ false = rw q at out in let y : false ≡ true = rw no at inside in absurd (cc))
    (λ (q : r ≢ x). rw (ne_eqb r x q) (fewer xs big r (rest (is_among big x) (subset xs big) inside) out))
    (cases_eq r x)
  where
    rest : (a b : Bool) → a && b ≡ true → b ≡ true
    rest true b h = h
    rest false b h = absurd (cc)

-- the tables of the carry and the operands
pub reads : (on : List ℕ) (a b : ℕ) → Reads (operands a b) on carry_row on (λ f. f a) (λ f. f b)
reads on a b f = fires-hit (operands a b) on f

-- an operand is made of none of the rows that it is not
pub blind : (rows : List ℕ) (a : ℕ) → is_among rows a ≡ false → Blind rows (λ f. f a)
blind rows a off f g same = same a off

-- the rows of totals
abbrev pub total_rows : List ℕ
total_rows = carry_row ∷ total_row ∷ truth_row ∷ []
