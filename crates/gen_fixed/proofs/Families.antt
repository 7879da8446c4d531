-- The laws of averages and of sums and differences that are clipped.
use Rattle.std.proofs.Common.{◌≡◌, ℕ, ◌*◌, ◌/◌, ◌%◌, ◌<◌, Bool, true, false, cond, eqb, ◌&&◌, ◌++◌, refl, sym, ◌∙◌, ap, arith}
use Rattle.std.proofs.Math.Nat.{mod-add-div'}
use Rattle.bit_laws.specs.Numbers.{number, low, bit_of}
use Rattle.bit_laws.proofs.Numbers.{bit-number}
use Rattle.bit_laws.specs.Rounding.{low_int, rounded, clipped, clips, clipped_unsigned, clips_unsigned}
use Rattle.bit_laws.proofs.Ints.{int-low}
use Rattle.bit_rows.specs.Slices.{Slices}
use Rattle.steer_net.specs.Moves.{per_row}
use Rattle.micro_ir.specs.Kinds.{Realises}
use Rattle.micro_ir.specs.Pieces.{commit}
use Rattle.micro_ir.specs.Replay.{replay}
use Rattle.micro_ir.specs.Steps.{steps_on, micros, element}
use Rattle.micro_ir.specs.WorkRows.{IsOperandRow, active_row, result_row, scalar_row}
use Rattle.micro_ir.specs.declared.place.Place.{Place}
use Rattle.micro_ir.proofs.Committed.{commit-writes}
use Rattle.micro_ir.proofs.Lift.{micros-element, replay-columns}
use Rattle.micro_ir.proofs.Lists.{replay-append}
use Rattle.micro_ir.proofs.OneElement.{commit-fits}
use Rattle.row_views.specs.Clips.{clip_test, ClipsWhere}
use Rattle.row_views.specs.Views.{view}
use Rattle.row_views.proofs.Clips.{body-clip, clip_test-clips}
use Rattle.fold_laws.proofs.Anys.{any-same}
use Rattle.gen_shift.specs.Rows.{moved_row}
use Rattle.gen_shift.proofs.Stays.{Within}
use Rattle.row_sums.proofs.Kept.{kept, operand-off, low-off}
use Rattle.row_sums.proofs.Fits.{work-realises}
use Rattle.gen_fixed.specs.declared.kinds.Average.{Average}
use Rattle.gen_fixed.specs.declared.kinds.Average.TheVariants.{Avgu, Avg}
use Rattle.gen_fixed.specs.declared.kinds.Saturating.{Saturating}
use Rattle.gen_fixed.specs.declared.kinds.Saturating.TheVariants.{Saddu, Sadd, Ssubu, Ssub}
use Rattle.gen_fixed.specs.Lists.{carries_of, beyond_on, averaging, average_row}
use Rattle.gen_fixed.specs.Kinds.{exact, average_sign, average_value, saturating, flag_row, saturating_list}
use Rattle.gen_fixed.specs.Laws.{RealisesAverage, RealisesSaturating, ClipsSaturating, LeavesRows}
use Rattle.gen_fixed.proofs.Operands.{total_rows}
use Rattle.gen_fixed.proofs.Averages.{average_rows, averaging-only, average-made}
use Rattle.gen_fixed.proofs.Unsigned.{saturating_rows, Saturated, unsigned-only, unsigned-on}
use Rattle.gen_fixed.proofs.Signed.{signed_rows, signed-only, signed-on}
use Rattle.gen_fixed.proofs.Fits.{averaging-fits, saturating-fits}

-- ---- averages

average-past : (mode : ℕ) → scalar_row < average_row mode
average-past mode = elim (eqb mode 2) as (λ (b : Bool). scalar_row < cond b moved_row result_row) [
  | true ↦ omega arith
  | false ↦ omega arith
]

average-realises : (sign sub : Bool) (mode w a b to : ℕ) (reads : Bool) → 1 < w → IsOperandRow a → IsOperandRow b → to < 32
    → Realises w to reads (λ n c. low_int w (rounded mode (exact sign sub w (n a) (n b)) 1)) (micros w (averaging (carries_of sub) (beyond_on sign sub) mode w a b ++ commit w (average_row mode) to))
average-realises sign sub mode w a b to reads wide a_is b_is register =
    work-realises w (average_row mode) to reads average_rows (averaging (carries_of sub) (beyond_on sign sub) mode w a b) (λ n c. low_int w (rounded mode (exact sign sub w (n a) (n b)) 1))
    (averaging-fits sub (beyond_on sign sub) mode w a b wide) (averaging-only (carries_of sub) (beyond_on sign sub) mode w a b) refl (average-past mode) register
    (λ e c. average-made sign sub mode w a b e (operand-off a average_rows a_is refl refl refl) (operand-off b average_rows b_is refl refl refl) (omega arith))

pub realises-average : (kind : Average) (w : ℕ) (at : Place) → 1 < w → IsOperandRow at.a → IsOperandRow at.b → at.to < 32 → RealisesAverage kind w at
realises-average kind w at wide a b register reads = by kind at.sub
  where
    by : (kind : Average) (sub : Bool) → Realises w at.to reads (λ n c. average_value kind sub w at.mode (n at.a) (n at.b)) (micros w (averaging (carries_of sub) (beyond_on (average_sign kind) sub) at.mode w at.a at.b ++ commit w (average_row at.mode) at.to))
    by Avgu false = average-realises false false at.mode w at.a at.b at.to reads wide a b register
    by Avgu true = average-realises false true at.mode w at.a at.b at.to reads wide a b register
    by Avg false = average-realises true false at.mode w at.a at.b at.to reads wide a b register
    by Avg true = average-realises true true at.mode w at.a at.b at.to reads wide a b register

-- ---- what looks for the flag changes no row

pub test-leaves : (w row : ℕ) → LeavesRows (clip_test w row)
unfolding LeavesRows replay
test-leaves w row s sub r col = refl

test-element : (v w k col row : ℕ) (s : Slices) → element w k col (replay (clip_test v row) s) ≡ element w k col s
unfolding element replay
test-element v w k col row s = refl

-- ---- sums and differences that are clipped

-- their value, and whether it is clipped
abbrev clipped_value : (sign sub : Bool) (w a b : ℕ) → ℕ
clipped_value false sub w a b = low_int w (clipped_unsigned w (exact false sub w a b))
clipped_value true sub w a b = low_int w (clipped w (exact true sub w a b))

abbrev tells_clipped : (sign sub : Bool) (w a b : ℕ) → Bool
tells_clipped false sub w a b = clips_unsigned w (exact false sub w a b)
tells_clipped true sub w a b = clips w (exact true sub w a b)

saturating-only : (sign sub : Bool) (w a b : ℕ) → Within saturating_rows (saturating sign sub w a b)
saturating-only false sub w a b = unsigned-only saturating_rows sub w a b refl refl refl refl
saturating-only true sub w a b = signed-only saturating_rows sub w a b refl refl refl refl refl

saturated : (sign sub : Bool) (w a b : ℕ) (e : ℕ → ℕ → Bool) → IsOperandRow a → IsOperandRow b → 0 < w
    → Saturated w (flag_row sign) (clipped_value sign sub w (number w (e a)) (number w (e b))) (tells_clipped sign sub w (number w (e a)) (number w (e b))) (steps_on (saturating sign sub w a b) e)
saturated false sub w a b e a_is b_is some = unsigned-on sub w a b e (operand-off a total_rows a_is refl refl refl) (operand-off b total_rows b_is refl refl refl) some
saturated true sub w a b e a_is b_is some = signed-on sub w a b e (operand-off a signed_rows a_is refl refl refl) (operand-off b signed_rows b_is refl refl refl) some

value-low : (sign sub : Bool) (w a b : ℕ) → clipped_value sign sub w a b ≡ low w (clipped_value sign sub w a b)
value-low false sub w a b = int-low w (clipped_unsigned w (exact false sub w a b))
value-low true sub w a b = int-low w (clipped w (exact true sub w a b))

saturating-realises : (sign sub : Bool) (w a b to : ℕ) (reads : Bool) → 0 < w → IsOperandRow a → IsOperandRow b → to < 32
    → Realises w to reads (λ n c. clipped_value sign sub w (n a) (n b)) (saturating_list sign sub w a b to)
unfolding Realises
saturating-realises sign sub w a b to reads some a_is b_is register s k col inside column =
    let steps = saturating sign sub w a b in
    let test = clip_test w (flag_row sign) in
    let last = commit w result_row to in
    let e = element w k col s in
    let s1 = replay (micros w steps) s in
    let s2 = replay test s1 in
    let fits = saturating-fits sign sub w a b some in
    let in_columns : col < s2.columns = rw (replay-columns test s1, replay-columns (micros w steps) s) column in
    let parts : element w k col (replay (micros w steps ++ (test ++ micros w last)) s) ≡ steps_on last (steps_on steps e) =
    ap (element w k col) (replay-append (micros w steps) (test ++ micros w last) s ∙ replay-append test (micros w last) s1)
    ∙ micros-element w k col last s2 (commit-fits w result_row to (omega arith)) inside in_columns
    ∙ ap (steps_on last) (test-element w w k col (flag_row sign) s1 ∙ micros-element w k col steps s fits inside column) in
    let made = saturated sign sub w a b e a_is b_is some in
    rw parts (commit-writes w result_row to reads (λ n c. clipped_value sign sub w (n a) (n b)) e (steps_on steps e) (omega arith) register
    (λ c mask. made.made ∙ value-low sign sub w (number w (e a)) (number w (e b)))
    (λ r j l within n. kept saturating_rows steps e r (saturating-only sign sub w a b) (low-off r saturating_rows l refl) n j))

-- whole elements fill a subarray
pub lanes-of : (w : ℕ) → 32 % w ≡ 0 → 32 / w * w ≡ 32
lanes-of w divides = let m = mod-add-div' 32 w in omega (arith, m, divides)

saturating-clips : (sign sub : Bool) (w a b to : ℕ) → 0 < w → 32 % w ≡ 0 → IsOperandRow a → IsOperandRow b
    → ClipsWhere w (λ n. tells_clipped sign sub w (n a) (n b)) (saturating_list sign sub w a b to)
unfolding ClipsWhere
saturating-clips sign sub w a b to some divides a_is b_is s =
    let steps = saturating sign sub w a b in
    body-clip w (flag_row sign) steps (commit w result_row to) s (saturating-fits sign sub w a b some) some (lanes-of w divides)
    ∙ any-same (per_row w s) _ _ (λ p l.
    let e = view w s p in
    let active : steps_on steps e active_row ≡ e active_row = kept saturating_rows steps e active_row (saturating-only sign sub w a b) refl in
    ap (λ (f : ℕ → Bool). f 0 && steps_on steps e (flag_row sign) 0) active ∙ ap (λ (c : Bool). e active_row 0 && c) ((saturated sign sub w a b e a_is b_is some).told 0 some))

pub realises-saturating : (kind : Saturating) (w : ℕ) (at : Place) → 0 < w → IsOperandRow at.a → IsOperandRow at.b → at.to < 32 → RealisesSaturating kind w at
realises-saturating Saddu w at some a b register reads = saturating-realises false false w at.a at.b at.to reads some a b register
realises-saturating Sadd w at some a b register reads = saturating-realises true false w at.a at.b at.to reads some a b register
realises-saturating Ssubu w at some a b register reads = saturating-realises false true w at.a at.b at.to reads some a b register
realises-saturating Ssub w at some a b register reads = saturating-realises true true w at.a at.b at.to reads some a b register

pub clips-saturating : (kind : Saturating) (w : ℕ) (at : Place) → 0 < w → 32 % w ≡ 0 → IsOperandRow at.a → IsOperandRow at.b → ClipsSaturating kind w at
clips-saturating Saddu w at some divides a b = saturating-clips false false w at.a at.b at.to some divides a b
clips-saturating Sadd w at some divides a b = saturating-clips true false w at.a at.b at.to some divides a b
clips-saturating Ssubu w at some divides a b = saturating-clips false true w at.a at.b at.to some divides a b
clips-saturating Ssub w at some divides a b = saturating-clips true true w at.a at.b at.to some divides a b

-- ---- the flag of a row

pub row-clips : (w row : ℕ) → 0 < w → 32 % w ≡ 0 → ClipsWhere w (λ n. bit_of (n row) 0) (clip_test w row)
unfolding ClipsWhere
row-clips w row some divides s =
    clip_test-clips w row s some (lanes-of w divides)
    ∙ any-same (per_row w s) _ _ (λ p l. ap (λ (c : Bool). view w s p active_row 0 && c) (sym (bit-number w (view w s p row) 0 some)))
