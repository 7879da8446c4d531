-- What the lists do.
use Rattle.std.specs.Prelude.{◌≡◌, ◌≢◌, ℕ, ◌+◌, ◌*◌, ◌^◌, ◌<◌, ◌≤◌, Bool, true, false, List}
use Rattle.std.specs.Int.{from_bool}
use Rattle.bit_laws.specs.Numbers.{number, low}
use Rattle.bit_laws.specs.Rounding.{increment}
use Rattle.bit_laws.specs.Signed.{extended}
use Rattle.bit_rows.specs.Slices.{Slices}
use Rattle.micro_ir.specs.declared.op.MicroOp.{MicroOp}
use Rattle.micro_ir.specs.declared.place.Place.{Place}
use Rattle.micro_ir.specs.Replay.{replay}
use Rattle.micro_ir.specs.Steps.{element}
use Rattle.micro_ir.specs.Kinds.{Realises}
use Rattle.micro_ir.specs.WorkRows.{carry_row, result_row}
use Rattle.gen_shift.specs.declared.kinds.Shift.{Shift}
use Rattle.gen_shift.specs.Rows.{shifted_row, rounded_row, is_among, shift_rows, rounding_rows}
use Rattle.gen_shift.specs.Kinds.{shift_value, rounded_value, shift_ops, raw_ops, rounding_ops, rounded_ops}

-- It realises the kind's number, whether the mask is read beside it or not.
abbrev pub RealisesShift : Shift → (w l : ℕ) → Place → Type 0
RealisesShift kind w l at = (reads : Bool) → Realises w at.to reads (λ n c. shift_value kind w l (n at.a) (n at.b)) (shift_ops kind w l at)

-- ---- what a rounding mode adds

-- three rows of work above those of the increment
pub record AreModeRows (quotient last more : ℕ) : Type 0 where
  pub quotient_low : 36 < quotient
  pub last_low : 36 < last
  pub more_low : 36 < more
  pub quotient_high : quotient < 64
  pub last_high : last < 64
  pub more_high : more < 64
  pub above_last : quotient ≢ last
  pub above_more : quotient ≢ more
  pub below : last ≢ more

-- The result row gets the number of the row `quotient` and what the mode adds to it, by the lowest bits of the three rows, in
-- every element and modulo 2^w. Each row but the result row and the carry row stays.
pub record ModeAdded (w mode quotient last more : ℕ) (e now : ℕ → ℕ → Bool) : Type 0 where
  pub made : number w (now result_row) ≡ low w (number w (e quotient) + from_bool (increment mode (e quotient 0) (e last 0) (e more 0)))
  pub kept : (r j : ℕ) → r ≢ carry_row → r ≢ result_row → now r j ≡ e r j

unfoldable pub AddsMode : (w mode quotient last more : ℕ) → List MicroOp → Type 0
AddsMode w mode quotient last more ops =
    (s : Slices) (k col : ℕ) → k * w + w ≤ 32 → col < s.columns → ModeAdded w mode quotient last more (element w k col s) (element w k col (replay ops s))

-- ---- values that stay in a row of work

-- The row gets the value of the rows' numbers in every element, active or not. Each row that is not one of `work` stays.
pub record Leaves (w row : ℕ) (work : List ℕ) (value : (ℕ → ℕ) → ℕ) (e now : ℕ → ℕ → Bool) : Type 0 where
  pub made : number w (now row) ≡ low w (value (λ r. number w (e r)))
  pub kept : (r j : ℕ) → is_among work r ≡ false → j < w → now r j ≡ e r j

unfoldable pub LeavesValue : (w row : ℕ) (work : List ℕ) (value : (ℕ → ℕ) → ℕ) → List MicroOp → Type 0
LeavesValue w row work value ops =
    (s : Slices) (k col : ℕ) → k * w + w ≤ 32 → col < s.columns → Leaves w row work value (element w k col s) (element w k col (replay ops s))

abbrev pub LeavesShift : Shift → (w l : ℕ) → Place → Type 0
LeavesShift kind w l at = LeavesValue w (shifted_row l) shift_rows (λ n. shift_value kind w l (n at.a) (n at.b)) (raw_ops kind w l at)

-- A shift that rounds, before its commit and with it.
abbrev pub LeavesRounded : Shift → (w l : ℕ) → Place → Type 0
LeavesRounded kind w l at =
    LeavesValue w (rounded_row at.mode l) rounding_rows (λ n. rounded_value kind at.mode w l (n at.a) (n at.b)) (rounding_ops kind w l at)

abbrev pub RealisesRounded : Shift → (w l : ℕ) → Place → Type 0
RealisesRounded kind w l at =
    (reads : Bool) → Realises w at.to reads (λ n c. rounded_value kind at.mode w l (n at.a) (n at.b)) (rounded_ops kind w l at)

-- ---- the extension by a sign

-- A number of v bits in the row becomes the same number with a sign, of w bits, in every element. Every other row stays.
pub record Extends (v w row : ℕ) (e now : ℕ → ℕ → Bool) : Type 0 where
  pub made : number w (e row) < 2 ^ v → number w (now row) ≡ extended true v w (number w (e row))
  pub kept : (r j : ℕ) → r ≢ row → j < w → now r j ≡ e r j

unfoldable pub ExtendsSign : (v w row : ℕ) → List MicroOp → Type 0
ExtendsSign v w row ops =
    (s : Slices) (k col : ℕ) → k * w + w ≤ 32 → col < s.columns → Extends v w row (element w k col s) (element w k col (replay ops s))
