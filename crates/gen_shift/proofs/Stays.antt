-- The rows that lists of steps write. All others stay.
use Rattle.std.proofs.Common.{◌≡◌, ◌≢◌, ℕ, zero, suc, ◌+◌, ◌-◌, ◌<◌, ◌≤◌, Bool, true, false, ◌&&◌, ltb, List, [], ◌∷◌, ◌++◌, refl, sym, ap, ◌∙◌, arith, inl, inr, ⊎_elim}
use Rattle.std.specs.Prelude.{IsTrue}
use Rattle.std.proofs.lemmas.Bool.{cases_lt, lt-ltb, le-ltb, ne_eqb}
use Rattle.micro_ir.specs.Steps.{Step, step_on, steps_on}
use Rattle.micro_ir.specs.Pieces.{above, ups, downs, broadcast}
use Rattle.micro_ir.specs.WorkRows.{IsOperandRow, scalar_row, broadcast_row}
use Rattle.micro_ir.proofs.OneElement.{step-row}
use Rattle.micro_ir.specs.Folding.{are_rows}
use Rattle.gen_shift.specs.Rows.{moved_row, is_among, work_rows, shift_rows, rounding_rows}

-- each step writes one of the rows
abbrev pub Within : List ℕ → List Step → Type 0
Within rows [] = Unit {0}
Within rows (s ∷ ss) = (is_among rows s.out ≡ true) × Within rows ss

pub stays : (rows : List ℕ) (steps : List Step) (e : ℕ → ℕ → Bool) (r i : ℕ) → Within rows steps → is_among rows r ≡ false → steps_on steps e r i ≡ e r i
unfolding steps_on
stays rows [] e r i p q = refl
stays rows (s ∷ ss) e r i p q =
    let apart : r ≢ s.out = λ x. let y : true ≡ false = sym p.0 ∙ sym (ap (is_among rows) x) ∙ q in absurd (cc) in
    stays rows ss (step_on s e) r i p.1 q ∙ step-row s e r i apart

pub within-append : (rows : List ℕ) (xs ys : List Step) → Within rows xs → Within rows ys → Within rows (xs ++ ys)
within-append rows [] ys p q = q
within-append rows (x ∷ xs) ys p q = (p.0, within-append rows xs ys p.1 q)

pub within-ups : (rows : List ℕ) (row j n : ℕ) → is_among rows row ≡ true → Within rows (ups row j n)
unfolding ups
within-ups rows row j zero h = tt
within-ups rows row j (suc n) h = within-append rows (ups row j n) (above (row ∷ []) (1 ∷ []) row (j + n) 1 ∷ []) (within-ups rows row j n h) (h, tt)

pub within-downs : (rows : List ℕ) (row n : ℕ) → is_among rows row ≡ true → Within rows (downs row n)
unfolding downs
within-downs rows row zero h = tt
within-downs rows row (suc n) h = (h, within-downs rows row n h)

pub within-broadcast : (rows : List ℕ) (w from j : ℕ) → is_among rows broadcast_row ≡ true → Within rows (broadcast w from j)
unfolding broadcast
within-broadcast rows w from j h =
    (h, (h, within-append rows (ups broadcast_row j (w - 1 - j)) (downs broadcast_row j) (within-ups rows broadcast_row j (w - 1 - j) h) (within-downs rows broadcast_row j h)))

-- ---- operands

abbrev all_above : List ℕ → Bool
all_above [] = true
all_above (x ∷ xs) = ltb scalar_row x && all_above xs

-- registers and the rows below those of work are none of the rows above them
free-low : (rows : List ℕ) (r : ℕ) → all_above rows ≡ true → r ≤ scalar_row → is_among rows r ≡ false
free-low [] r h low = refl
free-low (x ∷ xs) r h low =
    ⊎_elim
    (λ (l : scalar_row < x). rw (ne_eqb r x (λ q. absurd (omega arith))) (free-low xs r (rw (lt-ltb scalar_row x l) at h) low))
    (λ (l : x ≤ scalar_row). let no : false ≡ true = rw (le-ltb scalar_row x l) at h in absurd (cc))
    (cases_lt scalar_row x)

pub low-free : (keeps : Bool) (r : ℕ) → r ≤ scalar_row → is_among (work_rows keeps) r ≡ false
low-free true r low = free-low (work_rows true) r refl low
low-free false r low = free-low (work_rows false) r refl low

pub low-kept : (r : ℕ) → r ≤ scalar_row → is_among rounding_rows r ≡ false
low-kept r low = free-low rounding_rows r refl low

-- an operand is none of the rows that shifts write
pub operand-free : (keeps : Bool) (r : ℕ) → IsOperandRow r → is_among (work_rows keeps) r ≡ false
operand-free keeps r (inl is) = low-free keeps r (omega arith)
operand-free keeps r (inr (inl is)) = low-free keeps r (omega arith)
operand-free keeps r (inr (inr (inl is))) = low-free keeps r (omega arith)
operand-free true r (inr (inr (inr (inl is)))) = rw is refl
operand-free false r (inr (inr (inr (inl is)))) = rw is refl
operand-free true r (inr (inr (inr (inr is)))) = rw is refl
operand-free false r (inr (inr (inr (inr is)))) = rw is refl

pub operand-row : (r : ℕ) → IsOperandRow r → r < 64
operand-row r (inl is) = omega arith
operand-row r (inr (inl is)) = omega arith
operand-row r (inr (inr (inl is))) = omega arith
operand-row r (inr (inr (inr (inl is)))) = omega arith
operand-row r (inr (inr (inr (inr is)))) = omega arith

pub operand-apart : (r : ℕ) → IsOperandRow r → r ≢ broadcast_row
operand-apart r is = λ q. let y : true ≡ false = ap (is_among shift_rows) (sym q) ∙ operand-free false r is in absurd (cc)

-- ---- rows that a step names

pub one-row : (r : ℕ) → r < 64 → IsTrue (are_rows (r ∷ []))
one-row r low = rw (lt-ltb r 64 low) refl

pub two-rows : (r : ℕ) → r < 64 → IsTrue (are_rows (broadcast_row ∷ r ∷ []))
two-rows r low = rw (lt-ltb r 64 low) refl

pub three-rows : (r : ℕ) → r < 64 → IsTrue (are_rows (broadcast_row ∷ moved_row ∷ r ∷ []))
three-rows r low = rw (lt-ltb r 64 low) refl
