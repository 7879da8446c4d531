-- The lists of steps of the kinds that carry from bit to bit: sums, comparisons, and the lesser and the greater of two.
use Rattle.std.specs.Prelude.{ℕ, ◌-◌, true, cond, zero, suc, List, [], ◌∷◌, ◌++◌}
use lib.Dec.{ltb}
use Rattle.micro_ir.specs.Steps.{Step}
use Rattle.micro_ir.specs.WorkRows.{mask_row, carry_row, result_row, truth_row}
use Rattle.micro_ir.specs.Pieces.{everywhere, above, clear, commit, downs}

-- ---- from bit to bit

-- One bit: its digit, and the carry out of it into the carry row one bit above, but at the highest bit. A table of no
-- values makes no operation.
abbrev pub digit : (w : ℕ) (inputs digits carries : List ℕ) (carry out j : ℕ) → List Step
digit w inputs digits carries carry out j = above inputs digits out j 0 ∷ cond (ltb (suc j) w) (above inputs carries carry j 1 ∷ []) []

-- the lowest n bits, in rising order
unfoldable pub ripple : (w : ℕ) (inputs digits carries : List ℕ) (carry out n : ℕ) → List Step
ripple w inputs digits carries carry out zero = []
ripple w inputs digits carries carry out (suc n) = ripple w inputs digits carries carry out n ++ digit w inputs digits carries carry out n

-- ---- sums: tables of the carry, a and b

-- The tables of a sum: what the carry into the lowest bit is made of, the digits, and the carries.
pub record SumTables : Type 0 where
  pub from : List ℕ
  pub from_on : List ℕ
  pub digits : List ℕ
  pub carries : List ℕ

-- the sum of row a and row b into the register `to`
unfoldable pub sum_steps : SumTables → (w a b to : ℕ) → List Step
sum_steps k w a b to =
    clear w carry_row ∷ above k.from k.from_on carry_row 0 0 ∷ clear w result_row
    ∷ (ripple w (carry_row ∷ a ∷ b ∷ []) k.digits k.carries carry_row result_row w ++ commit w result_row to)

-- one or three of the bits are 1
abbrev pub odd_on : List ℕ
odd_on = 1 ∷ 2 ∷ 4 ∷ 7 ∷ []

-- two or three of them are 1
abbrev pub most_on : List ℕ
most_on = 3 ∷ 5 ∷ 6 ∷ 7 ∷ []

-- the same with b inverted
abbrev pub odd_not_on : List ℕ
odd_not_on = 0 ∷ 3 ∷ 5 ∷ 6 ∷ []

abbrev pub most_not_on : List ℕ
most_not_on = 1 ∷ 2 ∷ 3 ∷ 7 ∷ []

abbrev pub add : SumTables
add = record { from = []; from_on = []; digits = odd_on; carries = most_on }

-- a plus b inverted plus 1
abbrev pub sub : SumTables
sub = record { from = []; from_on = 0 ∷ []; digits = odd_not_on; carries = most_not_on }

-- the mask bit is carried in
abbrev pub adc : SumTables
adc = record { from = mask_row ∷ []; from_on = 1 ∷ []; digits = odd_on; carries = most_on }

-- the mask bit is borrowed
abbrev pub sbc : SumTables
sbc = record { from = mask_row ∷ []; from_on = 0 ∷ []; digits = odd_not_on; carries = most_not_on }

-- ---- truths: tables of the carry, a and b

-- The tables of a truth: what the carry into the lowest bit is made of, the carries, and the truth at the highest bit.
pub record TruthTables : Type 0 where
  pub from : List ℕ
  pub from_on : List ℕ
  pub carries : List ℕ
  pub last : List ℕ

-- the truth of row a and row b into the highest bit of the truth row
unfoldable pub truth_steps : TruthTables → (w a b : ℕ) → List Step
truth_steps k w a b =
    clear w carry_row ∷ clear w truth_row ∷ above k.from k.from_on carry_row 0 0
    ∷ (ripple w (carry_row ∷ a ∷ b ∷ []) [] k.carries carry_row truth_row (w - 1)
    ++ above (carry_row ∷ a ∷ b ∷ []) k.last truth_row (w - 1) 0 ∷ [])

-- the borrow of a - b: two or three of the carry, a inverted and b are 1
abbrev pub borrow_on : List ℕ
borrow_on = 1 ∷ 4 ∷ 5 ∷ 7 ∷ []

-- the carry is 1 or the operands differ
abbrev pub unlike_on : List ℕ
unlike_on = 1 ∷ 2 ∷ 3 ∷ 4 ∷ 5 ∷ 7 ∷ []

-- the complement of that
abbrev pub alike_on : List ℕ
alike_on = 0 ∷ 6 ∷ []

-- no borrow of b - a: where the operands are natural numbers, and where they are signed
abbrev pub at_most_on : List ℕ
at_most_on = 0 ∷ 4 ∷ 5 ∷ 6 ∷ []

abbrev pub at_most_signed_on : List ℕ
at_most_signed_on = 0 ∷ 2 ∷ 3 ∷ 6 ∷ []

abbrev pub compare : (carries last : List ℕ) → TruthTables
compare carries last = record { from = []; from_on = []; carries = carries; last = last }

-- with the mask bit carried in
abbrev pub compare_in : (carries last : List ℕ) → TruthTables
compare_in carries last = record { from = mask_row ∷ []; from_on = 1 ∷ []; carries = carries; last = last }

abbrev pub madc : TruthTables
madc = compare most_on most_on

abbrev pub madc_in : TruthTables
madc_in = compare_in most_on most_on

abbrev pub msbc : TruthTables
msbc = compare borrow_on borrow_on

abbrev pub msbc_in : TruthTables
msbc_in = compare_in borrow_on borrow_on

abbrev pub eq : TruthTables
eq = compare unlike_on alike_on

abbrev pub ne : TruthTables
ne = compare unlike_on unlike_on

abbrev pub ltu : TruthTables
ltu = compare borrow_on borrow_on

-- signed: both highest bits are inverted
abbrev pub lt : TruthTables
lt = compare borrow_on most_not_on

-- the borrow of b - a; the carry of a and b inverted has its table
abbrev pub leu : TruthTables
leu = compare most_not_on at_most_on

abbrev pub le : TruthTables
le = compare most_not_on at_most_signed_on

abbrev pub gtu : TruthTables
gtu = compare most_not_on most_not_on

abbrev pub gt : TruthTables
gt = compare most_not_on borrow_on

-- ---- one of two, by a truth

-- the table of the truth, a and b: a where the truth is 1, else b
abbrev pub first_on : List ℕ
first_on = 3 ∷ 4 ∷ 6 ∷ 7 ∷ []

-- b where it is 1, else a
abbrev pub second_on : List ℕ
second_on = 2 ∷ 5 ∷ 6 ∷ 7 ∷ []

-- row a or row b into the register `to`, as the comparison and the table say
unfoldable pub choice_steps : TruthTables → (on : List ℕ) → (w a b to : ℕ) → List Step
choice_steps k on w a b to =
    truth_steps k w a b ++ (downs truth_row (w - 1)
    ++ clear w result_row ∷ everywhere w (truth_row ∷ a ∷ b ∷ []) on result_row true ∷ commit w result_row to)
