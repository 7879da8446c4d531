-- The rows that lists of steps write, and the rows of operands.
use Rattle.std.proofs.Common.{◌≡◌, ◌≢◌, ℕ, ◌<◌, ◌≤◌, Bool, true, false, not, ◌||◌, ◌&&◌, ltb, eqb, List, [], ◌∷◌, ◌++◌, suc, refl, ap, arith, inl, inr, ◌⊎◌, ⊎_elim}
use Rattle.std.proofs.lemmas.Bool.{ne_eqb, ltb-true, and_parts}
use Rattle.micro_ir.specs.Steps.{Step, steps_on}
use Rattle.micro_ir.specs.WorkRows.{IsOperandRow, scalar_row, left_row, right_row}
use Rattle.gen_shift.specs.Rows.{is_odd, is_among}
use Rattle.gen_shift.proofs.Stays.{Within, stays}
use Rattle.gen_shift.proofs.Barrel.{odd-next}
use Rattle.row_sums.specs.Sums.{half_role, half_after}

-- every row that a list does not write stays
pub kept : (rows : List ℕ) (steps : List Step) (e : ℕ → ℕ → Bool) (r : ℕ) → Within rows steps → is_among rows r ≡ false → steps_on steps e r ≡ e r
kept rows steps e r only off = λ k j. stays rows steps e r j only off k

pub differ : (r x : ℕ) (rows : List ℕ) → is_among rows r ≡ false → is_among rows x ≡ true → r ≢ x
differ r x rows off on q = let o = rw q at off in absurd (cc)

among-more : (few extra : List ℕ) (r : ℕ) → is_among few r ≡ true → is_among (few ++ extra) r ≡ true
among-more [] extra r h = absurd (cc)
among-more (x ∷ xs) extra r h = either (eqb r x) (is_among xs r) (is_among (xs ++ extra) r) h (among-more xs extra r)
  where
    either : (a b c : Bool) → a || b ≡ true → (b ≡ true → c ≡ true) → a || c ≡ true
    either true b c h more = refl
    either false b c h more = more h

-- a list writes no other row, nor one of some more
pub within-more : (few extra : List ℕ) (steps : List Step) → Within few steps → Within (few ++ extra) steps
within-more few extra [] p = tt
within-more few extra (s ∷ ss) p = (among-more few extra s.out p.0, within-more few extra ss p.1)

-- ---- operands

-- all rows are rows of work past the scalar's
abbrev pub past_scalar : List ℕ → Bool
past_scalar [] = true
past_scalar (x ∷ xs) = ltb scalar_row x && past_scalar xs

pub low-off : (r : ℕ) (rows : List ℕ) → r ≤ scalar_row → past_scalar rows ≡ true → is_among rows r ≡ false
low-off r [] low h = refl
low-off r (x ∷ xs) low h =
    let p = and_parts (ltb scalar_row x) (past_scalar xs) h in
    let l : scalar_row < x = ltb-true scalar_row x p.0 in
    rw (ne_eqb r x (omega arith), low-off r xs low p.1) refl

-- an operand is none of the rows of work that hold no operand
pub operand-off : (r : ℕ) (rows : List ℕ) → IsOperandRow r → past_scalar rows ≡ true → is_among rows left_row ≡ false → is_among rows right_row ≡ false → is_among rows r ≡ false
operand-off r rows (inl is) past left right = low-off r rows (omega arith) past
operand-off r rows (inr (inl is)) past left right = low-off r rows (omega arith) past
operand-off r rows (inr (inr (inl is))) past left right = low-off r rows (omega arith) past
operand-off r rows (inr (inr (inr (inl is)))) past left right = rw is left
operand-off r rows (inr (inr (inr (inr is)))) past left right = rw is right

-- ---- the rows of the low half

-- those before and after a round
abbrev pub Halves : ℕ → ℕ → Type 0
Halves q r = ((q ≡ 43) × (r ≡ 44)) ⊎ ((q ≡ 44) × (r ≡ 43))

pub off_first : (q r : ℕ) → Halves q r → (rows : List ℕ) → is_among rows 43 ≡ false → is_among rows 44 ≡ false → is_among rows q ≡ false
off_first q r h rows one two = ⊎_elim (λ (p : (q ≡ 43) × (r ≡ 44)). rw p.0 one) (λ (p : (q ≡ 44) × (r ≡ 43)). rw p.0 two) h

pub on_first : (q r : ℕ) → Halves q r → (rows : List ℕ) → is_among rows 43 ≡ true → is_among rows 44 ≡ true → is_among rows q ≡ true
on_first q r h rows one two = ⊎_elim (λ (p : (q ≡ 43) × (r ≡ 44)). rw p.0 one) (λ (p : (q ≡ 44) × (r ≡ 43)). rw p.0 two) h

pub turned : (q r : ℕ) → Halves q r → Halves r q
turned q r h = ⊎_elim (λ (p : (q ≡ 43) × (r ≡ 44)). inr (p.1, p.0)) (λ (p : (q ≡ 44) × (r ≡ 43)). inl (p.1, p.0)) h

pub apart : (q r : ℕ) → Halves q r → q ≢ r
apart q r h e = ⊎_elim (λ (p : (q ≡ 43) × (r ≡ 44)). absurd (omega arith)) (λ (p : (q ≡ 44) × (r ≡ 43)). absurd (omega arith)) h

pub halves : (p : Bool) → Halves (half_role p) (half_role (not p))
halves false = inl (refl, refl)
halves true = inr (refl, refl)

pub role-row : (p : Bool) → half_role p < 64
role-row true = omega arith
role-row false = omega arith

pub role-past : (p : Bool) → scalar_row < half_role p
role-past true = omega arith
role-past false = omega arith

pub half-next : (n : ℕ) → half_after (suc n) ≡ half_role (not (is_odd n))
half-next n = ap half_role (odd-next n)
