-- The laws of the kinds.
use Rattle.std.proofs.Common.{◌≡◌, ◌≢◌, ℕ, ◌-◌, ◌%◌, ◌^◌, ◌<◌, ◌≤◌, Bool, false, ◌∙◌, arith, ⊎_elim}
use Rattle.std.proofs.lemmas.Bool.{cases_lt}
use Rattle.std.proofs.Math.Nat.{mod-eq_of_lt}
use Rattle.bit_laws.specs.Numbers.{number}
use Rattle.bit_laws.proofs.Numbers.{number-same}
use Rattle.micro_ir.specs.Kinds.{Writes}
use Rattle.micro_ir.specs.Pieces.{commit}
use Rattle.micro_ir.specs.Steps.{steps_on, element}
use Rattle.micro_ir.specs.WorkRows.{IsOperandRow}
use Rattle.micro_ir.specs.declared.place.Place.{Place}
use Rattle.micro_ir.proofs.Committed.{commit-writes, lifted}
use Rattle.micro_ir.proofs.Lift.{micros-element}
use Rattle.micro_ir.proofs.StepLists.{steps_on-append}
use Rattle.gen_shift.specs.declared.kinds.Shift.{Shift}
use Rattle.gen_shift.specs.Rows.{shifted_row, rounded_row, is_odd, shift_rows, rounding_rows}
use Rattle.gen_shift.specs.Lists.{goes_up, moved_bits, shifting, shift_steps, rounding, rounded_steps}
use Rattle.gen_shift.specs.Kinds.{shift_value, rounded_value}
use Rattle.gen_shift.specs.Laws.{RealisesShift, Leaves, LeavesValue, LeavesShift, LeavesRounded, RealisesRounded}
use Rattle.gen_shift.proofs.Stays.{low-free, low-kept, operand-free}
use Rattle.gen_shift.proofs.Shifts.{ShiftDone, shift-done, value-is}
use Rattle.gen_shift.proofs.Rounded.{rounding-done, rounded-is}
use Rattle.gen_shift.proofs.Fits.{row-high, shifting-fits, shift-fits, rounding-fits, rounded-high, rounded-fits}

-- a width is at most 32
pub width-most : (w : ℕ) → 32 % w ≡ 0 → w ≤ 32
width-most w divides =
    ⊎_elim
    (λ (l : 32 < w). let z : 32 % w ≡ 32 = mod-eq_of_lt l in absurd (omega (arith, z, divides)))
    (λ (l : w ≤ 32). l)
    (cases_lt 32 w)

-- the moved row's number, from the state e
shift-number : (kind : Shift) (w l a b : ℕ) (e now : ℕ → ℕ → Bool) → w ≡ 2 ^ l → ShiftDone kind false w l a b e now
    → number w (now (shifted_row l)) ≡ number w (moved_bits kind (e a (w - 1)) w (number l (e b)) (e a))
shift-number kind w l a b e now is s = number-same w (now (shifted_row l)) (moved_bits kind (e a (w - 1)) w (number l (e b)) (e a)) s.row

-- ---- without a commit

pub leaves-shift : (kind : Shift) (w l : ℕ) (at : Place) → w ≡ 2 ^ l → IsOperandRow at.a → IsOperandRow at.b → LeavesShift kind w l at
unfolding LeavesValue
leaves-shift kind w l at is a b s k col inside column =
    rw (micros-element w k col (shifting kind false w l at.a at.b) s (shifting-fits kind false w l at.a at.b is) inside column) (done (element w k col s))
  where
    done : (e : ℕ → ℕ → Bool) → Leaves w (shifted_row l) shift_rows (λ n. shift_value kind w l (n at.a) (n at.b)) e (steps_on (shifting kind false w l at.a at.b) e)
    done e =
        let d = shift-done kind false w l at.a at.b e is (operand-free false at.a a) (operand-free false at.b b) (λ y. absurd (cc)) in
        record {
          made = shift-number kind w l at.a at.b e (steps_on (shifting kind false w l at.a at.b) e) is d ∙ value-is kind w l (e at.a) (e at.b) is;
          kept = λ r j free inside. d.rest r j free;
        }

-- ---- with one

shift-writes : (kind : Shift) (w l : ℕ) (at : Place) (reads : Bool) (e : ℕ → ℕ → Bool) → w ≡ 2 ^ l → IsOperandRow at.a → IsOperandRow at.b → at.to < 32
    → Writes w at.to reads (λ n c. shift_value kind w l (n at.a) (n at.b)) e (steps_on (shift_steps kind w l at.a at.b at.to) e)
unfolding shift_steps
shift-writes kind w l at reads e is a b register =
    let d = shift-done kind false w l at.a at.b e is (operand-free false at.a a) (operand-free false at.b b) (λ y. absurd (cc)) in
    let now = steps_on (shifting kind false w l at.a at.b) e in
    let other : shifted_row l ≢ at.to = λ q. let h = row-high (is_odd l) in absurd (omega arith) in
    rw (steps_on-append (shifting kind false w l at.a at.b) (commit w (shifted_row l) at.to) e)
    (commit-writes w (shifted_row l) at.to reads (λ n c. shift_value kind w l (n at.a) (n at.b)) e now other register
    (λ c mask. shift-number kind w l at.a at.b e now is d ∙ value-is kind w l (e at.a) (e at.b) is)
    (λ r j small inside. d.rest r j (low-free false r small)))

pub realises-shift : (kind : Shift) (w l : ℕ) (at : Place) → w ≡ 2 ^ l → IsOperandRow at.a → IsOperandRow at.b → at.to < 32 → RealisesShift kind w l at
realises-shift kind w l at is a b register reads =
    lifted w at.to reads (λ n c. shift_value kind w l (n at.a) (n at.b)) (shift_steps kind w l at.a at.b at.to) (shift-fits kind w l at.a at.b at.to is)
    (λ e. shift-writes kind w l at reads e is a b register)

-- ---- where it is rounded

pub leaves-rounded : (kind : Shift) (w l : ℕ) (at : Place) → w ≡ 2 ^ l → goes_up kind ≡ false → IsOperandRow at.a → IsOperandRow at.b → LeavesRounded kind w l at
unfolding LeavesValue
leaves-rounded kind w l at is right a b s k col inside column =
    let steps = rounding kind at.mode w l at.a at.b in
    rw (micros-element w k col steps s (rounding-fits kind at.mode w l at.a at.b is) inside column) (done (element w k col s))
  where
    done : (e : ℕ → ℕ → Bool)
        → Leaves w (rounded_row at.mode l) rounding_rows (λ n. rounded_value kind at.mode w l (n at.a) (n at.b)) e (steps_on (rounding kind at.mode w l at.a at.b) e)
    done e =
        let d = rounding-done kind at.mode w l at.a at.b e is right (λ keeps. operand-free keeps at.a a) (λ keeps. operand-free keeps at.b b) in
        record {
          made = d.made ∙ rounded-is kind at.mode w l (e at.a) (e at.b) is;
          kept = λ r j free inside. d.rest r j free;
        }

rounded-writes : (kind : Shift) (w l : ℕ) (at : Place) (reads : Bool) (e : ℕ → ℕ → Bool) → w ≡ 2 ^ l → goes_up kind ≡ false → IsOperandRow at.a → IsOperandRow at.b → at.to < 32
    → Writes w at.to reads (λ n c. rounded_value kind at.mode w l (n at.a) (n at.b)) e (steps_on (rounded_steps kind at.mode w l at.a at.b at.to) e)
unfolding rounded_steps
rounded-writes kind w l at reads e is right a b register =
    let d = rounding-done kind at.mode w l at.a at.b e is right (λ keeps. operand-free keeps at.a a) (λ keeps. operand-free keeps at.b b) in
    let now = steps_on (rounding kind at.mode w l at.a at.b) e in
    let other : rounded_row at.mode l ≢ at.to = λ q. let h = rounded-high at.mode l in absurd (omega arith) in
    rw (steps_on-append (rounding kind at.mode w l at.a at.b) (commit w (rounded_row at.mode l) at.to) e)
    (commit-writes w (rounded_row at.mode l) at.to reads (λ n c. rounded_value kind at.mode w l (n at.a) (n at.b)) e now other register
    (λ c mask. d.made ∙ rounded-is kind at.mode w l (e at.a) (e at.b) is)
    (λ r j small inside. d.rest r j (low-kept r small)))

pub realises-rounded : (kind : Shift) (w l : ℕ) (at : Place) → w ≡ 2 ^ l → goes_up kind ≡ false → IsOperandRow at.a → IsOperandRow at.b → at.to < 32 → RealisesRounded kind w l at
realises-rounded kind w l at is right a b register reads =
    lifted w at.to reads (λ n c. rounded_value kind at.mode w l (n at.a) (n at.b)) (rounded_steps kind at.mode w l at.a at.b at.to)
    (rounded-fits kind at.mode w l at.a at.b at.to is) (λ e. rounded-writes kind w l at reads e is right a b register)
