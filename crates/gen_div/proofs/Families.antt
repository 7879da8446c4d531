-- The laws of the kinds.
use Rattle.std.proofs.Common.{◌≡◌, ◌≢◌, ℕ, ◌+◌, ◌^◌, ◌<◌, Bool, true, false, not, List, ◌++◌, [], ◌∷◌, refl, sym, ◌∙◌, ap, arith, inl, inr}
use Rattle.std.proofs.Math.Nat.{mod-eq_of_lt}
use Rattle.bit_laws.specs.Numbers.{number, low}
use Rattle.bit_laws.proofs.Numbers.{number-lt}
use Rattle.micro_ir.specs.Steps.{steps_on}
use Rattle.micro_ir.specs.WorkRows.{scalar_row, broadcast_row}
use Rattle.micro_ir.specs.declared.place.Place.{Place}
use Rattle.micro_ir.proofs.StepLists.{steps_on-append, AllFit-append}
use Rattle.gen_shift.specs.Rows.{is_odd, is_among}
use Rattle.gen_shift.proofs.Stays.{Within, within-append}
use Rattle.row_sums.specs.Sums.{total_row, half_role, half_after}
use Rattle.row_sums.proofs.Kept.{kept, differ, off_first, halves, past_scalar, low-off, operand-off, role-past}
use Rattle.row_sums.proofs.Fits.{work-realises}
use Rattle.gen_div.specs.declared.kinds.Division.{Division}
use Rattle.gen_div.specs.declared.kinds.Division.TheVariants.{Divu, Remu, Div, Rem}
use Rattle.gen_div.specs.Rows.{IsSignedRow, IsRowOf}
use Rattle.gen_div.specs.Lists.{rest_row, dividing, negating, magnitudes, by_sign, quotient_signs, starting, finishing, result_row, division_steps}
use Rattle.gen_div.specs.Kinds.{quotient, remainder, division_value}
use Rattle.gen_div.specs.Laws.{RealisesDivision}
use Rattle.gen_div.proofs.Quotients.{division_works, division-on, division-only, quotient-is, rest-is}
use Rattle.gen_div.proofs.Negatives.{signed_works, works, magnitude, magnitudes-on, magnitudes-only, by_sign-on, by_sign-only, negating-on, negating-only, quotient_negative, signs-on, signs-only}
use Rattle.gen_div.proofs.Whole.{quotient_of, rest_of, quotient-whole, remainder-whole}
use Rattle.gen_div.proofs.Fits.{starting-fits, finishing-fits}

-- ---- operands

-- an operand is none of the rows that the list writes
pub signed-free : (r : ℕ) → IsSignedRow r → is_among signed_works r ≡ false
signed-free r (inl is) = low-off r signed_works (omega arith) refl
signed-free r (inr is) = low-off r signed_works (omega arith) refl

pub signed-row : (r : ℕ) → IsSignedRow r → r < 64
signed-row r (inl is) = omega arith
signed-row r (inr is) = omega arith

pub signed-apart : (r : ℕ) → IsSignedRow r → r ≢ broadcast_row
signed-apart r is = differ r 37 signed_works (signed-free r is) refl

operand-free : (kind : Division) (r : ℕ) → IsRowOf kind r → is_among (works kind) r ≡ false
operand-free Divu r is = operand-off r division_works is refl refl refl
operand-free Remu r is = operand-off r division_works is refl refl refl
operand-free Div r is = signed-free r is
operand-free Rem r is = signed-free r is

-- ---- results

pub result-past : (kind : Division) (w : ℕ) → scalar_row < result_row kind w
result-past Divu w = role-past (is_odd w)
result-past Remu w = omega arith
result-past Div w = omega arith
result-past Rem w = omega arith

starting-only : (kind : Division) (w a b : ℕ) → Within (works kind) (starting kind w a b)
starting-only Divu w a b = division-only w a b
starting-only Remu w a b = division-only w a b
starting-only Div w a b = magnitudes-only w a b
starting-only Rem w a b = magnitudes-only w a b

finishing-only : (kind : Division) (w a b : ℕ) → Within (works kind) (finishing kind w a b)
finishing-only Divu w a b = tt
finishing-only Remu w a b = tt
finishing-only Div w a b =
    within-append signed_works (quotient_signs w a b) (negating w (half_after w) total_row) (signs-only signed_works w a b refl refl) (negating-only signed_works w (half_after w) total_row refl refl)
finishing-only Rem w a b = by_sign-only signed_works w a rest_row total_row refl refl refl

-- what each kind leaves in its row
left : (kind : Division) (w a b : ℕ) (e : ℕ → ℕ → Bool) → 0 < w → is_among (works kind) a ≡ false → is_among (works kind) b ≡ false
    → number w (steps_on (finishing kind w a b) (steps_on (starting kind w a b) e) (result_row kind w)) ≡ low w (division_value kind w (number w (e a)) (number w (e b)))
unfolding steps_on
left Divu w a b e some a_off b_off =
    let now = steps_on (dividing w a b) e in
    let q : number w (now (half_after w)) ≡ quotient w (number w (e a)) (number w (e b)) =
    quotient-is (2 ^ w) (number w (e a)) (number w (e b)) (number w (now (half_after w))) (number w (now rest_row)) (division-on w a b e a_off b_off) in
    sym (mod-eq_of_lt (number-lt w (now (half_after w)))) ∙ ap (low w) q
left Remu w a b e some a_off b_off =
    let now = steps_on (dividing w a b) e in
    let r : number w (now rest_row) ≡ remainder w (number w (e a)) (number w (e b)) =
    rest-is (2 ^ w) (number w (e a)) (number w (e b)) (number w (now (half_after w))) (number w (now rest_row)) (division-on w a b e a_off b_off) in
    sym (mod-eq_of_lt (number-lt w (now rest_row))) ∙ ap (low w) r
left Div w a b e some a_off b_off =
    let e1 = steps_on (magnitudes w a b) e in
    let signs = quotient_signs w a b in
    let e2 = steps_on signs e1 in
    let last = negating w (half_after w) total_row in
    let q_off : (rows : List ℕ) → is_among rows 43 ≡ false → is_among rows 44 ≡ false → is_among rows (half_after w) ≡ false = off_first (half_after w) (half_role (not (is_odd w))) (halves (is_odd w)) in
    let ka : e1 a ≡ e a = kept signed_works (magnitudes w a b) e a (magnitudes-only w a b) a_off in
    let kb : e1 b ≡ e b = kept signed_works (magnitudes w a b) e b (magnitudes-only w a b) b_off in
    let kq : e2 (half_after w) ≡ e1 (half_after w) = kept (37 ∷ 53 ∷ []) signs e1 (half_after w) (signs-only (37 ∷ 53 ∷ []) w a b refl refl) (q_off (37 ∷ 53 ∷ []) refl refl) in
    let q = quotient-is (2 ^ w) (magnitude w (number w (e a))) (magnitude w (number w (e b))) (number w (e1 (half_after w))) (number w (e1 rest_row)) (magnitudes-on w a b e some a_off b_off) in
    let made : number w (steps_on last e2 total_row) ≡ low w (quotient_of w (number w (e a)) (number w (e b))) =
    negating-on w (half_after w) total_row (quotient_negative w (number w (e1 a)) (number w (e1 b))) e2 some (q_off (35 ∷ 38 ∷ []) refl refl) refl (signs-on w a b e1 some a_off b_off)
    ∙ rw (ka, kb, kq, q) refl in
    ap (λ (s : ℕ → ℕ → Bool). number w (s total_row)) (steps_on-append signs last e1) ∙ made
    ∙ quotient-whole w (number w (e a)) (number w (e b)) (number-lt w (e a)) (number-lt w (e b))
left Rem w a b e some a_off b_off =
    let e1 = steps_on (magnitudes w a b) e in
    let ka : e1 a ≡ e a = kept signed_works (magnitudes w a b) e a (magnitudes-only w a b) a_off in
    let r = rest-is (2 ^ w) (magnitude w (number w (e a))) (magnitude w (number w (e b))) (number w (e1 (half_after w))) (number w (e1 rest_row)) (magnitudes-on w a b e some a_off b_off) in
    let made : number w (steps_on (by_sign w a rest_row total_row) e1 total_row) ≡ low w (rest_of w (number w (e a)) (number w (e b))) =
    by_sign-on w a rest_row total_row e1 some (differ a 37 signed_works a_off refl) refl refl refl ∙ rw (ka, r) refl in
    made ∙ remainder-whole w (number w (e a)) (number w (e b)) (number-lt w (e a)) (number-lt w (e b))

past : (kind : Division) → past_scalar (works kind) ≡ true
past Divu = refl
past Remu = refl
past Div = refl
past Rem = refl

pub realises-division : (kind : Division) (w : ℕ) (at : Place) → 1 < w → IsRowOf kind at.a → IsRowOf kind at.b → at.to < 32 → RealisesDivision kind w at
unfolding division_steps
realises-division kind w at wide a b register reads =
    let first = starting kind w at.a at.b in
    let rest = finishing kind w at.a at.b in
    let a_off = operand-free kind at.a a in
    let b_off = operand-free kind at.b b in
    work-realises w (result_row kind w) at.to reads (works kind) (first ++ rest) (λ n c. division_value kind w (n at.a) (n at.b))
    (AllFit-append w first rest (starting-fits kind w at.a at.b wide a_off b_off) (finishing-fits kind w at.a at.b (omega arith)))
    (within-append (works kind) first rest (starting-only kind w at.a at.b) (finishing-only kind w at.a at.b)) (past kind) (result-past kind w) register
    (λ e c. ap (λ (s : ℕ → ℕ → Bool). number w (s (result_row kind w))) (steps_on-append first rest e)
    ∙ left kind w at.a at.b e (omega arith) a_off b_off)
